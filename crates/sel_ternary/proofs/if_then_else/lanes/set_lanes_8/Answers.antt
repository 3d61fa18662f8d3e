use Rattle.sel_ternary.proofs.Common.{◌∙◌, ◌/◌, ◌++◌, sym, ap, map, refl, Bool, ℤ, cond, w8, cast_signed, bits, all_ones}
use Rattle.std.proofs.{Common.◌%◌, lemmas.List.map-append}
use Rattle.sel_ternary.proofs.Lanes.{lanes_marked, two_bytes}
use Rattle.sel_ternary.proofs.if_then_else.lanes.set_lanes_8.Goals as goal

abbrev lane : Bool → ℤ
lane b = cast_signed w8 (cond b 255 0)

pub returns : goal.returns
returns c =
    let low = c.args.mask % 256 in
    let high = c.args.mask / 256 in
    (λ i. lanes_marked 8 low lane refl refl i ++ lanes_marked 8 high lane refl refl i)
    ∙ sym (map-append all_ones (bits 8 low) (bits 8 high))
    ∙ ap (map all_ones) (two_bytes c.args.mask)
