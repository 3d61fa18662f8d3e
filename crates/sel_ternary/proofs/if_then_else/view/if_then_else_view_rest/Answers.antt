use Rattle.sel_ternary.proofs.Common.{◌≡◌, ◌∙◌, ◌+◌, ◌-◌, ◌*◌, ◌≤◌, ap, subst, length, map, get_or, refl, arith, if◌then◌else◌, length-map, View, bits, is_set, raised}
use Rattle.sel_ternary.proofs.Chosen.{bit_takes_first, bit_takes_second, all_rows, chosen_mapped, IsChosen}
use Rattle.std.proofs.Math.ListN.{set, length-set}
use Rattle.sel_ternary.proofs.PairLanes.{pair_bit}
use Rattle.sel_ternary.proofs.if_then_else.view.if_then_else_view_rest.Goals as goal
use Rattle.sel_ternary.proofs.if_then_else.view.if_then_else_view_rest.Goals.{then-mask-at-eq1, else-mask-at-eq1}

pub loop-k-preserved : goal.loop-k-preserved
loop-k-preserved c =
    let f = λ (view : View). raised view c.args.false_buffer_idx_offset in
    let d : View = record { length = 0; prefix = 0; buffer_idx = 0; offset = 0 } in
    let n = length c.args.out.now in
    let mask = c.args.mask in
    let ts = c.args.if_true.now in
    let fs = c.args.if_false.now in
    let base = c.args.out.now in
    let at = 2 * c.loop-k.k in
    let pair = c.chosen_pair-pair.result in
    let two : at + 2 ≤ n = omega (arith, c.loop-k-test.true) in
    let here : at + 0 ≡ at = omega arith in
    let chosen = c.chosen_pair-pair.ensures (get_or ts at d) (get_or ts (at + 1) d) (f (get_or fs at d)) (f (get_or fs (at + 1) d)) c.pair_lanes-trues.ensures c.raised_lanes-falses.ensures in
    let falses : length (map f fs) ≡ n = length-map fs f ∙ c.requires.false_side in
    let first = ap (λ l. get_or l 0 d) chosen ∙ ap (λ b. if b then get_or ts at d else f (get_or fs at d)) (pair_bit mask at 0 (omega arith) ∙ ap (is_set mask) here) in
    let second = ap (λ l. get_or l 1 d) chosen ∙ ap (λ b. if b then get_or ts (at + 1) d else f (get_or fs (at + 1) d)) (pair_bit mask at 1 (omega arith)) in
    let half = chosen_mapped n mask f ts fs base c.loop-k.out at d (get_or pair 0 d) d (record { trues = c.requires.true_side; falses = falses; places = c.loop-k.auto.out }) (omega (arith, two)) c.loop-k.invariant first in
    let next : at + 1 + 1 ≡ 2 * (c.loop-k.k + 1) = omega arith in
    subst (λ j. IsChosen (bits n mask) ts (map f fs) base j (set (set c.loop-k.out at (get_or pair 0 d)) (at + 1) (get_or pair 1 d))) next
    (chosen_mapped n mask f ts fs base (set c.loop-k.out at (get_or pair 0 d)) (at + 1) d (get_or pair 1 d) d
    (record { trues = c.requires.true_side; falses = falses; places = length-set c.loop-k.out at (get_or pair 0 d) ∙ c.loop-k.auto.out }) (omega (arith, two)) half second)

pub returns-after-mask-at-eq1 : goal.returns-after-mask-at-eq1
returns-after-mask-at-eq1 c =
    let f = λ (view : View). raised view c.args.false_buffer_idx_offset in
    let d : View = record { length = 0; prefix = 0; buffer_idx = 0; offset = 0 } in
    let n = length c.args.out.now in
    let mask = c.args.mask in
    let ts = c.args.if_true.now in
    let fs = c.args.if_false.now in
    let at = n - 1 in
    let one = get_or ts at d in
    let other = get_or fs at d in
    let falses : length (map f fs) ≡ n = length-map fs f ∙ c.requires.false_side in
    let here : 2 * c.loop-k.k ≡ at = omega (arith, c.loop-k-test.false, c.loop-k.auto.k-end, c.if-len-eq1.true) in
    let chosen_is : c.if-mask-at-eq1.out ≡ (if is_set mask at then one else f other) =
    elim c.if-mask-at-eq1.branch [
      | then-mask-at-eq1 w ↦ bit_takes_first mask at one (f other) c.if-mask-at-eq1.out w.if-mask-at-eq1.true w.out-is
      | else-mask-at-eq1 w ↦ bit_takes_second mask at one (f other) c.if-mask-at-eq1.out w.if-mask-at-eq1.false (w.out-is ∙ c.raise-other.ensures)
    ]
    in
    let was = subst (λ j. IsChosen (bits n mask) ts (map f fs) c.args.out.now j c.loop-k.out) here c.loop-k.invariant in
    all_rows n mask c.args.out.now (set c.loop-k.out at c.if-mask-at-eq1.out) (at + 1) refl (omega (arith, c.if-len-eq1.true)) ts (map f fs) c.requires.true_side falses
    (chosen_mapped n mask f ts fs c.args.out.now c.loop-k.out at d c.if-mask-at-eq1.out d (record { trues = c.requires.true_side; falses = falses; places = c.loop-k.auto.out }) (omega (arith, c.if-len-eq1.true)) was chosen_is)

pub returns-else-len-eq1 : goal.returns-else-len-eq1
returns-else-len-eq1 c =
    let f = λ (view : View). raised view c.args.false_buffer_idx_offset in
    all_rows (length c.args.out.now) c.args.mask c.args.out.now c.loop-k.out (2 * c.loop-k.k) refl (omega (arith, c.loop-k-test.false, c.loop-k.auto.k-end, c.if-len-eq1.false))
    c.args.if_true.now (map f c.args.if_false.now) c.requires.true_side (length-map c.args.if_false.now f ∙ c.requires.false_side) c.loop-k.invariant
