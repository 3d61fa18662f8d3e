-- Neither the memory that it waits for nor the list that it then is names a thread, if the values name none.
use denote.RattleType.{RattleType}
use denote.Param.Send.{IsSend, struct_send}
use denote.Struct.Declared.{shape}
use Rattle.std.proofs.Crossing.{Vec-send}
use Rattle.std.specs.Vec.{with_items}
use Rattle.sel_bits.specs.contracts.two_lists.Carved as carved
use Rattle.sel_bits.specs.contracts.two_lists.Carved.TheInside as inside
use Rattle.sel_bits.proofs.TwoListSends.{lodged_keyless, marked_send}

pub send : (F B : RattleType) → IsSend F → IsSend B → IsSend (carved.the_row F B)
send F B f b = record {
  owned = λ p vs. (
    (λ _. tt),
    λ v. (
      tt,
      λ t. (
        (tt, (lodged_keyless F f p.at p.len p.len t.0, (tt, lodged_keyless B b p.behind t.1.0 p.room t.1.1))),
        (struct_send (shape (inside.the_type F B)) (Vec-send F f, (marked_send B, tt))).owned (with_items v.list t.0, (tt, tt)) vs,
      ),
    ),
  );
  leaving = λ k p w. tt;
}
