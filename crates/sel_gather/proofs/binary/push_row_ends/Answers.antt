use Rattle.sel_gather.proofs.Common.{◌≡◌, ◌+◌, ◌-◌, ◌≤◌, ◌++◌, ◌∷◌, [], ◌∙◌, ap, sym, arith, map, pos, take, drop, w64, add_assoc, append_assoc, to_z_pos}
use Rattle.sel_gather.proofs.Common.{take_all, map-append, binary_rows, ends_from}
use Rattle.sel_gather.proofs.ValidBytes.{LivePart, live_part, part_ends, part_first, part_inside, part_room, part_length}
use Rattle.sel_gather.proofs.binary.push_row_ends.Goals as goal

pub at-first-requires : goal.at-first-requires
at-first-requires c = omega (arith, part_inside (live_part c.args.array.now c.args.start c.args.len c.requires.inside c.requires.live))

pub overflow_add-start : goal.overflow_add-start
overflow_add-start c = record { fits = omega (arith, part_inside (live_part c.args.array.now c.args.start c.args.len c.requires.inside c.requires.live), c.args.array.now.rows_fit, c.loop-i-test.true) }

pub overflow_add-start-in-loop-i : goal.overflow_add-start-in-loop-i
overflow_add-start-in-loop-i c = record { fits = omega (arith, part_inside (live_part c.args.array.now c.args.start c.args.len c.requires.inside c.requires.live), c.args.array.now.rows_fit, c.loop-i-test.true) }

pub at-end-requires : goal.at-end-requires
at-end-requires c = omega (arith, part_inside (live_part c.args.array.now c.args.start c.args.len c.requires.inside c.requires.live), c.loop-i-test.true)

given : (c : goal.After-push-arg-1) → LivePart c.args.array.now.offsets c.args.array.now.values c.args.array.now.validity c.args.start c.args.len
given c = live_part c.args.array.now c.args.start c.args.len c.requires.inside c.requires.live

room : (c : goal.After-push-arg-1) → c.args.before + (c.at-end.result - c.at-first.result) ≤ 9223372036854775807
room c =
    rw (c.at-first.ensures.value, c.at-end.ensures.value, add_assoc c.args.start c.loop-i.i 1)
    (part_room (given c) (c.loop-i.i + 1) (omega (arith, c.loop-i-test.true)) c.args.before 9223372036854775807 c.requires.room)

pub overflow_sub-end : goal.overflow_sub-end
overflow_sub-end c = rw (c.at-first.ensures.value, c.at-end.ensures.value, add_assoc c.args.start c.loop-i.i 1) (part_first (given c) (c.loop-i.i + 1) (omega (arith, c.loop-i-test.true)))

pub overflow_add-before : goal.overflow_add-before
overflow_add-before c = record { fits = omega (arith, room c) }

pub overflow_cast-before : goal.overflow_cast-before
overflow_cast-before c = omega (arith, room c)

pub loop-i-preserved : goal.loop-i-preserved
loop-i-preserved c =
    let given = live_part c.args.array.now c.args.start c.args.len c.requires.inside c.requires.live in
    let part = take c.args.len (drop c.args.start (binary_rows c.args.array.now)) in
    let so_far = ends_from c.args.before (take c.loop-i.i part) in
    let end = c.args.before + (c.at-end.result - c.at-first.result) in
    let room : end ≤ 9223372036854775807 = rw (c.at-first.ensures.value, c.at-end.ensures.value, add_assoc c.args.start c.loop-i.i 1) (part_room given (c.loop-i.i + 1) (omega (arith, c.loop-i-test.true)) c.args.before 9223372036854775807 c.requires.room) in
    let here : map pos (so_far ++ end ∷ []) ≡ map pos (ends_from c.args.before (take (c.loop-i.i + 1) part)) =
    rw (c.at-first.ensures.value, c.at-end.ensures.value, add_assoc c.args.start c.loop-i.i 1) (ap (map pos) (sym (part_ends given c.args.before c.loop-i.i c.loop-i-test.true))) in
    c.in_ok-push.ensures.items
    ∙ ap (λ x. c.loop-i.ends.items ++ x ∷ []) (to_z_pos w64 end (omega (arith, room)))
    ∙ ap (λ l. l ++ pos end ∷ []) c.loop-i.invariant
    ∙ append_assoc c.args.ends.now.items (map pos so_far) (pos end ∷ [])
    ∙ ap (λ l. c.args.ends.now.items ++ l) (sym (map-append pos so_far (end ∷ [])) ∙ here)

pub returns-clause-ends : goal.returns-clause-ends
returns-clause-ends c =
    let part = take c.args.len (drop c.args.start (binary_rows c.args.array.now)) in
    let long = part_length (live_part c.args.array.now c.args.start c.args.len c.requires.inside c.requires.live) in
    c.loop-i.invariant ∙ ap (λ l. c.args.ends.now.items ++ map pos (ends_from c.args.before l)) (take_all c.loop-i.i part (omega (arith, long, c.loop-i-test.false)))
