use Rattle.std.proofs.Common.{◌≡◌, ◌++◌, ◌∷◌, [], ◌∙◌, pos, true, ap, sym, refl, arith, length, w64, to_z}
use Rattle.std.proofs.lemmas.Int.{ints}
use Rattle.sel_gather.proofs.ItemRuns.{listed_values}
use Rattle.sel_lines.proofs.ReadLists.{read_more}
use Rattle.sel_lines.proofs.lists.push_list.Goals as goal

pub returns : goal.returns
returns c =
    λ read has.
    let old = c.args.lists.now in
    let new = c.extend_from_slice.new.self in
    let shown : to_z w64 c.len.result ≡ pos (length new.items) = omega (arith, ints, c.len.ensures, new.ok, new.small) in
    read_more read old _ _ c.args.items.values.items c.args.items.validity.items true has c.args.items.paired
    (c.in_ok-extend_from_slice.ensures.items ∙ ap (λ l. old.values.items ++ l) c.deref.ensures.value)
    (c.in_ok-extend_from_slice-2.ensures.items ∙ ap (λ l. old.flags.items ++ l) c.deref-2.ensures.value)
    (c.in_ok-push.ensures.items ∙ ap (λ z. old.ends.items ++ z ∷ []) shown) c.in_ok-push-2.ensures.items refl (sym (listed_values _)) tt
