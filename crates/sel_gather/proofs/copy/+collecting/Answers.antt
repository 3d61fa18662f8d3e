use Rattle.sel_gather.proofs.Common.{◌≡◌, ◌∙◌, ◌<◌, ◌+◌, ◌++◌, ◌∷◌, [], All, ap, sym, subst, map, length, get_or, take, replicate, arith, rules, true}
use Rattle.sel_gather.proofs.Common.{length-map, take_all, map_more, map-append, All-get_or, All-push, err_from_is_err_and, rows, row_count, type_of}
use Rattle.sel_gather.proofs.Common.{well_formed, IsField, IsWellFormed, of_null, of_struct, shapes_of, shape_list, Null, length-rows, child, field, is_listing}
use Rattle.sel_gather.proofs.Common.{part_at, parts_of, cleared, Collects, IsLimitOrMemory, ExceedsNone, exceeded_taken, pick, PickFits, expand, columns_of, picked}
use Rattle.sel_arrow.proofs.Trees.{has_fields}
use Rattle.sel_arrow.proofs.Types.{type_of-Struct}
use Rattle.sel_gather.proofs.Below.{block_child_type, found_all, found_map, mapped_now, listed_shapes, refused_more, past_at, parts_more, field_kind}
use Rattle.sel_gather.proofs.TupleRows.{field_rows, field_type, field_formed, picked_parts, parts_fit}
use Rattle.sel_gather.proofs.Walks.{children_collected, children_may, children_recurse, lists_child, lists_listing, one_child, two_children}
use Rattle.sel_gather.proofs.{Depths.size_of, Depths.one_size, ItemRuns.rows_of, ItemRuns.below_of, NullItems.null_items_in}
use Rattle.sel_gather.proofs.NearRows.{near_may}
use Rattle.sel_runs.proofs.RunLists.{length-pick}
use Rattle.sel_gather.proofs.{Within.fields_pass, Within.one_more_passes}
use Rattle.sel_gather.proofs.Common.{◌≤◌, ExceedsRows, joined_items, max_rows}
use Rattle.sel_gather.proofs.Within.{few_rows_pass, passes_neither}
use Rattle.sel_gather.proofs.Common.{of_fixed_size_list, of_large_list}
use Rattle.sel_gather.proofs.copy.+collecting.Goals as goal

-- ---- runs as row references

pub collect_lists-invariant_of-plan : goal.collect_lists-invariant_of-plan
collect_lists-invariant_of-plan t c = record { count = c.requires.may.len; few = c.requires.may.few; near = near_may c.args.sources.now (expand c.args.runs.now) c.args.len c.requires.may }

pub collect_blocks-invariant_of-plan : goal.collect_blocks-invariant_of-plan
collect_blocks-invariant_of-plan t c = record { count = c.requires.may.len; few = c.requires.may.few; near = near_may c.args.sources.now (expand c.args.runs.now) c.args.len c.requires.may }

-- ---- lists

pub collect_lists-collect_children-requires : goal.collect_lists-collect_children-requires
collect_lists-collect_children-requires t c =
    let s = type_of c.args.child.now in
    let cs = c.args.sources.now in
    let runs = ap expand c.deref.ensures.value in
    let fits = subst (All (PickFits (below_of cs))) (sym runs) c.in_ok-ends.ensures.fits in
    (omega (arith, c.decreases), (c.requires.child, (lists_listing s cs c.requires.alike, (lists_child s cs c.requires.alike, (c.requires.may.formed, (fits, (ap length runs ∙ c.in_ok-ends.ensures.count, c.in_ok-ends.ensures.few)))))))

-- ---- the children of lists

pub collect_children-collect_like-requires : goal.collect_children-collect_like-requires
collect_children-collect_like-requires t c =
    let cs = c.args.sources.now in
    let s = type_of c.args.first.now in
    let xs = c.child_of.result ∷ [] in
    let found = one_child cs c.only-item.result c.child_of.result (omega (arith, c.in-len1.len_at_least)) (omega (arith, c.in-len1.len_below)) c.only-item.is c.child_of.ensures in
    let below = children_recurse s cs xs found c.requires.lists c.requires.alike c.requires.formed in
    (omega (arith, c.decreases), (c.requires.first, (below.alike, children_may s cs xs found c.requires.lists c.requires.alike c.requires.formed (expand c.args.runs.now) c.args.len c.requires.fits c.requires.len c.requires.few)))

pub collect_children-returns-in-len1 : goal.collect_children-returns-in-len1
collect_children-returns-in-len1 t c =
    let cs = c.args.sources.now in
    let found = one_child cs c.only-item.result c.child_of.result (omega (arith, c.in-len1.len_at_least)) (omega (arith, c.in-len1.len_below)) c.only-item.is c.child_of.ensures in
    children_collected (type_of c.args.first.now) cs (c.child_of.result ∷ []) found c.requires.lists c.requires.alike c.requires.formed _ (expand c.args.runs.now) c.collect_like.ensures

pub collect_children-collect_like-requires-in-len2 : goal.collect_children-collect_like-requires-in-len2
collect_children-collect_like-requires-in-len2 t c =
    let cs = c.args.sources.now in
    let s = type_of c.args.first.now in
    let xs = c.child_of-in-len2.result ∷ c.child_of-in-len2-2.result ∷ [] in
    let found = two_children cs c.one-item.result c.other-item.result c.child_of-in-len2.result c.child_of-in-len2-2.result (omega (arith, c.in-len2.len_at_least)) (omega (arith, c.in-len2.len_below)) c.one-item.is c.other-item.is c.child_of-in-len2.ensures c.child_of-in-len2-2.ensures in
    let below = children_recurse s cs xs found c.requires.lists c.requires.alike c.requires.formed in
    (omega (arith, c.decreases), (c.requires.first, (below.alike, children_may s cs xs found c.requires.lists c.requires.alike c.requires.formed (expand c.args.runs.now) c.args.len c.requires.fits c.requires.len c.requires.few)))

pub collect_children-returns-in-len2 : goal.collect_children-returns-in-len2
collect_children-returns-in-len2 t c =
    let cs = c.args.sources.now in
    let xs = c.child_of-in-len2.result ∷ c.child_of-in-len2-2.result ∷ [] in
    let found = two_children cs c.one-item.result c.other-item.result c.child_of-in-len2.result c.child_of-in-len2-2.result (omega (arith, c.in-len2.len_at_least)) (omega (arith, c.in-len2.len_below)) c.one-item.is c.other-item.is c.child_of-in-len2.ensures c.child_of-in-len2-2.ensures in
    children_collected (type_of c.args.first.now) cs xs found c.requires.lists c.requires.alike c.requires.formed _ (expand c.args.runs.now) c.collect_like-in-len2.ensures

pub collect_children-collect_like-requires-2 : goal.collect_children-collect_like-requires-2
collect_children-collect_like-requires-2 t c =
    let cs = c.args.sources.now in
    let s = type_of c.args.first.now in
    let xs = c.deref.result.now in
    let found = ap (map (λ x. x.now)) c.deref.ensures.value ∙ c.in_ok-children.ensures.children in
    let below = children_recurse s cs xs found c.requires.lists c.requires.alike c.requires.formed in
    (omega (arith, c.decreases), (c.requires.first, (below.alike, children_may s cs xs found c.requires.lists c.requires.alike c.requires.formed (expand c.args.runs.now) c.args.len c.requires.fits c.requires.len c.requires.few)))

pub collect_children-returns : goal.collect_children-returns
collect_children-returns t c =
    let cs = c.args.sources.now in
    let found = ap (map (λ x. x.now)) c.deref.ensures.value ∙ c.in_ok-children.ensures.children in
    children_collected (type_of c.args.first.now) cs c.deref.result.now found c.requires.lists c.requires.alike c.requires.formed _ (expand c.args.runs.now) c.collect_like-2.ensures

-- ---- the child rows of lists

pub collect_items-returns-in-Null : goal.collect_items-returns-in-Null
collect_items-returns-in-Null t c =
    let cs = c.args.sources.now in
    let none : type_of c.args.first.now ≡ of_null = ap type_of c.in-Null.is in
    let nulls : All (λ c. type_of (child c.now) ≡ of_null) cs = λ k d h. c.requires.alike k d h ∙ none in
    let items = ap (λ n. replicate n Null) c.requires.need ∙ sym (null_items_in c.args.width cs c.requires.lists c.requires.formed nulls (expand c.args.runs.now) c.requires.fits) in
    record { rows = items; dtype = sym none; formed = search rules; within = rw none (λ limit h. h); refusal = search rules }

pub collect_items-collect_children-requires : goal.collect_items-collect_children-requires
collect_items-collect_children-requires t c =
    let cs = c.args.sources.now in
    let runs = ap expand c.deref.ensures.value in
    let fits = subst (All (PickFits (below_of cs))) (sym runs) c.in_ok-below.ensures.fits in
    let count = ap length runs ∙ sym (length-pick Null (below_of cs) (expand c.in_ok-below.below.items)) ∙ ap length c.in_ok-below.ensures.items ∙ sym c.requires.need in
    (omega (arith, c.decreases), (c.requires.first, (c.requires.lists, (c.requires.alike, (c.requires.formed, (fits, (count, c.requires.few)))))))

pub collect_items-returns : goal.collect_items-returns
collect_items-returns t c =
    let cs = c.args.sources.now in
    let items = ap (λ rs. pick Null (below_of cs) (expand rs)) c.deref.ensures.value ∙ c.in_ok-below.ensures.items in
    subst (Collects _ (type_of c.args.first.now) (map child (columns_of cs))) items c.collect_children.ensures

pub collect_blocks-collect_items-requires : goal.collect_blocks-collect_items-requires
collect_blocks-collect_items-requires t c =
    let cs = c.args.sources.now in
    let s = type_of c.args.child.now in
    let lists : All (λ c. is_listing (type_of c.now) ≡ true) cs = λ k d h. ap is_listing (c.requires.alike k d h) in
    let alike : All (λ c. type_of (child c.now) ≡ s) cs = λ k d h. block_child_type (get_or cs k d).now s c.args.size (c.requires.alike k d h) in
    (omega (arith, c.decreases), (c.requires.child, (lists, (alike, (c.requires.may.formed, (c.requires.may.fits, (c.count_items-need.ensures, omega (arith, c.if-need.false))))))))

-- ---- struct rows

pub collect_like-collect_structs-requires : goal.collect_like-collect_structs-requires
collect_like-collect_structs-requires t c =
    let fields = c.in-Struct.fields in
    let same = c.deref-in-Struct.ensures.value in
    let kind : type_of c.args.first.now ≡ of_struct (shapes_of (map type_of c.deref-in-Struct.result.now)) =
    ap type_of c.in-Struct.is ∙ type_of-Struct c.in-Struct.len fields c.in-Struct.validity ∙ ap (λ l. of_struct (shapes_of (map type_of l))) (sym same)
    in
    let has = has_fields c.in-Struct.len fields c.in-Struct.validity (ap well_formed (sym c.in-Struct.is) ∙ c.requires.first) in
    let firsts = subst (All (λ x. IsWellFormed x)) (sym same) (λ k d h. (has.fields k d h).1) in
    (omega (arith, c.decreases, ap size_of kind), (firsts, ((λ k d h. c.requires.alike k d h ∙ kind), c.requires.may)))

pub collect_like-returns-in-Struct : goal.collect_like-returns-in-Struct
collect_like-returns-in-Struct t c =
    let kind : type_of c.args.first.now ≡ of_struct (shapes_of (map type_of c.deref-in-Struct.result.now)) =
    ap type_of c.in-Struct.is ∙ type_of-Struct c.in-Struct.len c.in-Struct.fields c.in-Struct.validity ∙ ap (λ l. of_struct (shapes_of (map type_of l))) (sym c.deref-in-Struct.ensures.value)
    in
    rw kind c.collect_structs.ensures

pub collect_fields-loop-j-init : goal.collect_fields-loop-j-init
collect_fields-loop-j-init t c =
    let none : c.in_ok-fields.fields.items ≡ [] = c.in_ok-fields.ensures.items in
    record { parts = ap (map rows) none; dtypes = ap (map type_of) none; formed = subst (All (IsField c.args.len)) (sym none) (λ k d h. absurd (omega (arith, h))); within = λ k h limit past. absurd (omega (arith, h)) }

pub collect_fields-collect_like-requires : goal.collect_fields-collect_like-requires
collect_fields-collect_like-requires t c =
    let cs = c.args.sources.now in
    let xs = c.deref.result.now in
    let j = c.loop-j.j in
    let ss = shapes_of (map type_of c.args.firsts.now) in
    let f = c.index-firsts-j.result in
    let shapes = listed_shapes (map type_of c.args.firsts.now) in
    let inside : j < length (shape_list ss) = omega (arith, c.loop-j-test.true, ap length shapes, length-map c.args.firsts.now type_of) in
    let found = ap (map (λ x. x.now)) c.deref.ensures.value ∙ c.in_ok-columns.ensures.fields in
    let kind : get_or (shape_list ss) j of_null ≡ type_of f = field_kind c.args.firsts.now j f c.loop-j-test.true c.index-firsts-j.is in
    let alike = found_all (field j) (λ x. type_of x ≡ type_of f) xs cs found (λ k d h. field_type (get_or cs k d).now ss j of_null (c.requires.alike k d h) inside ∙ kind) in
    let formed = found_all (field j) (λ x. well_formed x ≡ true) xs cs found (λ k d h. (field_formed (get_or cs k d).now ss j (c.requires.alike k d h) (c.requires.may.formed k d h) inside).1) in
    let rows_found = found_map (field j) rows xs cs found in
    let runs = ap expand c.deref-in-loop-j.ensures.value ∙ c.in_ok-split.ensures.picks in
    let there = parts_fit ss j inside cs c.requires.alike c.requires.may.formed (expand c.args.runs.now) c.requires.may.fits in
    let fits = subst (λ xss. All (PickFits xss) (expand c.deref-in-loop-j.result.now)) (sym rows_found) (subst (All (PickFits (field_rows j cs))) (sym runs) there) in
    let count = ap length runs ∙ length-map (expand c.args.runs.now) (cleared (rows_of c.args.sources.now)) ∙ c.requires.may.len in
    let first = subst (λ x. IsWellFormed x) (sym c.index-firsts-j.is) (All-get_or (λ x. IsWellFormed x) c.args.firsts.now j f c.loop-j-test.true c.requires.firsts) in
    (omega (arith, c.decreases, one_size type_of c.args.firsts.now j f c.loop-j-test.true c.index-firsts-j.is), (first, (alike, record { formed = formed; fits = fits; len = count; few = c.requires.may.few })))

pub collect_fields-returns-in_err-field-clause-refusal : goal.collect_fields-returns-in_err-field-clause-refusal
collect_fields-returns-in_err-field-clause-refusal t c =
    let cs = c.args.sources.now in
    let xs = c.deref.result.now in
    let j = c.loop-j.j in
    let firsts = map type_of c.args.firsts.now in
    let ss = shapes_of firsts in
    let f = c.index-firsts-j.result in
    let shapes = listed_shapes firsts in
    let inside : j < length (shape_list ss) = omega (arith, c.loop-j-test.true, ap length shapes, length-map c.args.firsts.now type_of) in
    let p = err_from_is_err_and c.from_residual-in_err-field.result c.from_residual-in_err-field.ensures.1 in
    let found = ap (map (λ x. x.now)) c.deref.ensures.value ∙ c.in_ok-columns.ensures.fields in
    let kind : get_or (shape_list ss) j of_null ≡ type_of f = field_kind c.args.firsts.now j f c.loop-j-test.true c.index-firsts-j.is in
    let columns = found ∙ mapped_now (field j) cs in
    let parts = ap (λ xss. pick Null xss (expand c.deref-in-loop-j.result.now)) (found_map (field j) rows xs cs found)
    ∙ ap (λ ps. pick Null (field_rows j cs) ps) (ap expand c.deref-in-loop-j.ensures.value ∙ c.in_ok-split.ensures.picks) ∙ picked_parts ss j inside cs c.requires.alike (expand c.args.runs.now) in
    let vs = pick Null (rows_of c.args.sources.now) (expand c.args.runs.now) in
    let fault = c.in_err-field.field-0.0 in
    let one = subst (λ l. IsLimitOrMemory (exceeded_taken (type_of f) l (map (part_at j) vs)) fault) columns
    (subst (λ l. IsLimitOrMemory (exceeded_taken (type_of f) (map (λ x. x.now) xs) l) fault) parts c.in_err-field.ensures.refusal) in
    let here = subst (λ s. IsLimitOrMemory (exceeded_taken s (map (field j) (map (λ x. x.now) cs)) (map (part_at j) vs)) fault) (sym kind ∙ ap (λ l. get_or l j of_null) shapes) one in
    let many : j < length firsts = omega (arith, c.loop-j-test.true, length-map c.args.firsts.now type_of) in
    let place : 0 + j ≡ j = omega arith in
    rw (p.1, p.2) (refused_more _ _ fault
    (λ limit h. past_at firsts 0 j of_null (map (λ x. x.now) cs) vs limit many (subst (λ n. exceeded_taken (get_or firsts j of_null) (map (field n) (map (λ x. x.now) cs)) (map (part_at n) vs) limit) (sym place) h)) here)

pub collect_fields-loop-j-preserved : goal.collect_fields-loop-j-preserved
collect_fields-loop-j-preserved t c =
    let cs = c.args.sources.now in
    let xs = c.deref.result.now in
    let j = c.loop-j.j in
    let ss = shapes_of (map type_of c.args.firsts.now) in
    let shapes = listed_shapes (map type_of c.args.firsts.now) in
    let inside : j < length (shape_list ss) = omega (arith, c.loop-j-test.true, ap length shapes, length-map c.args.firsts.now type_of) in
    let found = ap (map (λ x. x.now)) c.deref.ensures.value ∙ c.in_ok-columns.ensures.fields in
    let vs = pick Null (rows_of c.args.sources.now) (expand c.args.runs.now) in
    let one = c.in_ok-field.field in
    let old = c.loop-j.fields.items in
    let part : rows one ≡ map (part_at j) vs =
    c.in_ok-field.ensures.rows ∙ ap (λ xss. pick Null xss (expand c.deref-in-loop-j.result.now)) (found_map (field j) rows xs cs found)
    ∙ ap (λ ps. pick Null (field_rows j cs) ps) (ap expand c.deref-in-loop-j.ensures.value ∙ c.in_ok-split.ensures.picks) ∙ picked_parts ss j inside cs c.requires.alike (expand c.args.runs.now)
    in
    let long : row_count one ≡ c.args.len = sym (length-rows one) ∙ ap length part ∙ length-map vs (part_at j) ∙ length-pick Null (rows_of c.args.sources.now) (expand c.args.runs.now) ∙ c.requires.may.len in
    let new : c.push.new.self.items ≡ old ++ one ∷ [] = c.in_ok-push.ensures.items in
    let firsts = map type_of c.args.firsts.now in
    let columns = columns_of cs in
    let f = c.index-firsts-j.result in
    let kind : get_or (shape_list ss) j of_null ≡ type_of f = field_kind c.args.firsts.now j f c.loop-j-test.true c.index-firsts-j.is in
    let taken = subst (λ l. ExceedsNone (exceeded_taken (type_of f) l (map (part_at j) vs))) (found ∙ mapped_now (field j) cs)
    (subst (λ l. ExceedsNone (exceeded_taken (type_of f) (map (λ x. x.now) xs) l)) (sym c.in_ok-field.ensures.rows ∙ part) c.in_ok-field.ensures.within) in
    let here = subst (λ s. ExceedsNone (exceeded_taken s (map (field j) columns) (map (part_at j) vs))) (sym kind ∙ ap (λ l. get_or l j of_null) shapes) taken in
    record {
      parts = parts_more j vs (map rows old) (map rows c.push.new.self.items) (rows one) c.loop-j.invariant.parts (ap (map rows) new ∙ map-append rows old (one ∷ [])) part;
      dtypes = ap (map type_of) new ∙ map-append type_of old (one ∷ []) ∙ ap (λ l. l ++ type_of one ∷ []) c.loop-j.invariant.dtypes
          ∙ ap (λ s. map type_of (take j c.args.firsts.now) ++ s ∷ []) (c.in_ok-field.ensures.dtype ∙ ap type_of c.index-firsts-j.is)
          ∙ sym (map_more type_of c.args.firsts.now j _ c.loop-j-test.true);
      formed = subst (All (IsField c.args.len)) (sym new) (All-push (IsField c.args.len) old one c.loop-j.invariant.formed (long, c.in_ok-field.ensures.formed));
      within = one_more_passes firsts j columns vs c.loop-j.invariant.within here;
    }

pub collect_fields-returns-clause-parts : goal.collect_fields-returns-clause-parts
collect_fields-returns-clause-parts t c =
    let all : c.loop-j.j ≡ length c.args.firsts.now = omega (arith, c.loop-j-test.false, c.loop-j.auto.j-end) in
    subst (λ n. map rows c.loop-j.fields.items ≡ parts_of n (pick Null (rows_of c.args.sources.now) (expand c.args.runs.now))) all c.loop-j.invariant.parts

pub collect_fields-returns-clause-dtypes : goal.collect_fields-returns-clause-dtypes
collect_fields-returns-clause-dtypes t c = c.loop-j.invariant.dtypes ∙ ap (map type_of) (take_all c.loop-j.j c.args.firsts.now (omega (arith, c.loop-j-test.false)))

pub collect_fields-returns-clause-formed : goal.collect_fields-returns-clause-formed
collect_fields-returns-clause-formed t c = c.loop-j.invariant.formed

-- ---- a returned column exceeds no limit

pub collect_fields-returns-clause-within : goal.collect_fields-returns-clause-within
collect_fields-returns-clause-within t c =
    let firsts = map type_of c.args.firsts.now in
    let columns = columns_of c.args.sources.now in
    let vs = picked c.args.sources.now c.args.runs.now in
    fields_pass firsts 0 columns vs
    (λ k below. let place : k ≡ 0 + k = omega arith in
    subst (λ n. ExceedsNone (exceeded_taken (get_or firsts k of_null) (map (field n) columns) (map (part_at n) vs))) place
    (c.loop-j.invariant.within k (omega (arith, below, length-map c.args.firsts.now type_of, c.loop-j-test.false))))

-- ---- columns over their children

pub collect_lists-returns : goal.collect_lists-returns
collect_lists-returns t c =
    let s = type_of c.args.child.now in
    let cs = c.args.sources.now in
    let yss = below_of cs in
    let items = joined_items 0 (picked cs c.args.runs.now) in
    let below = exceeded_taken s (map child (columns_of cs)) in
    let same : pick Null yss (expand c.deref.result.now) ≡ items = ap (λ r. pick Null yss (expand r)) c.deref.ensures.value ∙ c.in_ok-ends.ensures.items in
    let few : length items ≤ max_rows = omega (arith, ap length c.in_ok-ends.ensures.items, length-pick Null yss (expand c.in_ok-ends.below.items), c.in_ok-ends.ensures.count, c.in_ok-ends.ensures.few) in
    record {
      rows = c.in_ok-column.ensures.rows;
      dtype = search rules;
      formed = c.in_ok-column.ensures.formed;
      within = passes_neither (ExceedsRows (length items)) (below items) (few_rows_pass (length items) few) (subst (λ l. ExceedsNone (below l)) same c.in_ok-values.ensures.within);
      refusal = search rules;
    }

pub collect_blocks-returns : goal.collect_blocks-returns
collect_blocks-returns t c =
    let cs = c.args.sources.now in
    let items = joined_items c.args.size (picked cs c.args.runs.now) in
    let below = exceeded_taken (type_of c.args.child.now) (map child (columns_of cs)) items in
    record {
      rows = c.in_ok-column.ensures.rows;
      dtype = search rules;
      formed = c.in_ok-column.ensures.formed;
      within = passes_neither (ExceedsRows (length items)) below (few_rows_pass (length items) (omega (arith, c.count_items-need.ensures, c.if-need.false))) c.in_ok-values.ensures.within;
      refusal = search rules;
    }

pub collect_lists-lists_over-requires-clause-lists : goal.collect_lists-lists_over-requires-clause-lists
collect_lists-lists_over-requires-clause-lists t c = λ k d h. c.requires.alike k d h ∙ ap of_large_list (sym c.in_ok-values.ensures.dtype)

pub collect_lists-lists_over-requires-clause-below : goal.collect_lists-lists_over-requires-clause-below
collect_lists-lists_over-requires-clause-below t c =
    c.in_ok-values.ensures.rows ∙ ap (λ r. pick Null (below_of c.args.sources.now) (expand r)) c.deref.ensures.value ∙ c.in_ok-ends.ensures.items

pub collect_blocks-blocks_over-requires-clause-lists : goal.collect_blocks-blocks_over-requires-clause-lists
collect_blocks-blocks_over-requires-clause-lists t c = λ k d h. c.requires.alike k d h ∙ ap (λ s. of_fixed_size_list s c.args.size) (sym c.in_ok-values.ensures.dtype)
