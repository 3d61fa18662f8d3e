use Rattle.std.proofs.Common.{◌≡◌, ◌++◌, ◌∷◌, [], ◌∙◌, pos, false, ap, sym, refl, arith, length, w64, to_z}
use Rattle.std.proofs.lemmas.Int.{ints}
use Rattle.sel_lines.proofs.{Common.append-nil, ReadLists.read_more}
use Rattle.sel_lines.proofs.lists.push_null.Goals as goal

pub returns : goal.returns
returns c =
    λ read has.
    let old = c.args.lists.now in
    let shown : to_z w64 c.len.result ≡ pos (length old.values.items) = omega (arith, ints, c.len.ensures, old.values.ok, old.values.small) in
    read_more read old _ _ [] [] false has refl (sym (append-nil old.values.items)) (sym (append-nil old.flags.items))
    (c.in_ok-push.ensures.items ∙ ap (λ z. old.ends.items ++ z ∷ []) shown) c.in_ok-push-2.ensures.items refl refl tt
