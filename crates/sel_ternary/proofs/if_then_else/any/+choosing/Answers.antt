use Rattle.sel_ternary.proofs.Common.{◌≡◌, ◌∙◌, ◌<◌, ◌+◌, ◌++◌, ◌∷◌, [], All, ap, sym, subst, map, length, get_or, take, replicate, arith, rules, true, None}
use Rattle.sel_ternary.proofs.Common.{length-map, take_all, err_from_is_err_and, rows, type_of, well_formed, of_null, of_struct, shape_list, Null, length-rows}
use Rattle.sel_ternary.proofs.Common.{field, part_at, IsLimitOrMemory, ExceedsNone, exceeded_taken, refused_more, size_of, chosen_rows}
use Rattle.std.proofs.lemmas.List.{take_more, map-append, Elements.All-push}
use Rattle.sel_arrow.specs.{Rows.row_count, Rows.IsField, Shape.shapes_of}
use Rattle.sel_arrow.proofs.{Trees.rows-Struct, Trees.fields_make, Types.type_of-Struct}
use Rattle.sel_gather.{specs.Steps.parts_of, proofs.Rebuilt.IsTuple, proofs.Rebuilt.tuples_rebuilt, proofs.TupleRows.field_type}
use Rattle.sel_gather.proofs.{Below.listed_shapes, Below.past_at, Below.parts_more, Within.fields_pass, Within.one_more_passes}
use Rattle.sel_ternary.proofs.StructChoices.{bare_count, same_shapes, field_size, chosen_count, chosen_valid, chosen_tuples, first_formed, second_formed}
use Rattle.sel_ternary.proofs.StructChoices.{copy_of, copies_alike, copy_true_side, copy_false_side, copies_chosen, copies_pass, copies_refused}
use Rattle.sel_ternary.proofs.if_then_else.any.+choosing.Goals as goal

-- ---- the fields, one by one

pub field_choices-loop-j-init : goal.field_choices-loop-j-init
field_choices-loop-j-init t c =
    let none : c.in_ok-fields.fields.items ≡ [] = c.in_ok-fields.ensures.items in
    record { parts = ap (map rows) none; dtypes = ap (map type_of) none; formed = subst (All (IsField (length c.args.mask.now.bits))) (sym none) (λ k d h. absurd (omega (arith, h))); within = λ k h limit past. absurd (omega (arith, h)) }

pub field_choices-field_choice-requires : goal.field_choices-field_choice-requires
field_choices-field_choice-requires t c =
    let first = c.args.if_true.now.column in
    let ss = shapes_of (map type_of c.args.firsts.now) in
    let long = ap length (listed_shapes (map type_of c.args.firsts.now)) ∙ length-map c.args.firsts.now type_of in
    let count = bare_count first c.requires.true_bare ∙ ap (λ l. length (shape_list l)) (same_shapes first ss c.requires.true_bare c.requires.dtypes) ∙ long in
    (omega (arith, c.decreases), (c.requires.true_bare, (c.requires.false_bare, (omega (arith, c.loop-j-test.true, count), c.requires.sides))))

pub field_choices-loop-j-preserved : goal.field_choices-loop-j-preserved
field_choices-loop-j-preserved t c =
    let first = c.args.if_true.now.column in
    let second = c.args.if_false.now.column in
    let j = c.loop-j.j in
    let firsts = map type_of c.args.firsts.now in
    let ss = shapes_of firsts in
    let shapes = listed_shapes firsts in
    let inside : j < length (shape_list ss) = omega (arith, c.loop-j-test.true, ap length shapes, length-map c.args.firsts.now type_of) in
    let vs = chosen_rows c.args.true_column c.args.false_column c.args.mask.now.bits (rows first) (rows second) in
    let one = c.in_ok-field.field in
    let old = c.loop-j.fields.items in
    let new : c.push.new.self.items ≡ old ++ one ∷ [] = c.in_ok-push.ensures.items in
    let part : rows one ≡ map (part_at j) vs = c.in_ok-field.ensures.rows in
    let kind : type_of (field j first) ≡ get_or firsts j of_null = field_type first ss j of_null c.requires.dtypes inside ∙ ap (λ l. get_or l j of_null) shapes in
    let long : row_count one ≡ length c.args.mask.now.bits =
    sym (length-rows one) ∙ ap length part ∙ length-map vs (part_at j)
    ∙ chosen_count first second c.args.true_column c.args.false_column c.args.mask.now.bits c.requires.true_bare c.requires.false_bare ss c.requires.dtypes (sym c.requires.sides.alike ∙ c.requires.dtypes) c.requires.sides.true_side c.requires.sides.false_side in
    let here = subst (λ s. ExceedsNone (exceeded_taken s (field j first ∷ field j second ∷ []) (map (part_at j) vs))) kind c.in_ok-field.ensures.within in
    record {
      parts = parts_more j vs (map rows old) (map rows c.push.new.self.items) (rows one) c.loop-j.invariant.parts (ap (map rows) new ∙ map-append rows old (one ∷ [])) part;
      dtypes = ap (map type_of) new ∙ map-append type_of old (one ∷ []) ∙ ap (λ l. l ++ type_of one ∷ []) c.loop-j.invariant.dtypes
          ∙ ap (λ s. take j firsts ++ s ∷ []) (c.in_ok-field.ensures.dtype ∙ kind)
          ∙ sym (take_more firsts j of_null (omega (arith, c.loop-j-test.true, length-map c.args.firsts.now type_of)));
      formed = subst (All (IsField (length c.args.mask.now.bits))) (sym new) (All-push (IsField (length c.args.mask.now.bits)) old one c.loop-j.invariant.formed (long, c.in_ok-field.ensures.formed));
      within = one_more_passes firsts j (first ∷ second ∷ []) vs c.loop-j.invariant.within here;
    }

pub field_choices-returns-in_err-field-clause-refusal : goal.field_choices-returns-in_err-field-clause-refusal
field_choices-returns-in_err-field-clause-refusal t c =
    let first = c.args.if_true.now.column in
    let second = c.args.if_false.now.column in
    let j = c.loop-j.j in
    let firsts = map type_of c.args.firsts.now in
    let ss = shapes_of firsts in
    let shapes = listed_shapes firsts in
    let inside : j < length (shape_list ss) = omega (arith, c.loop-j-test.true, ap length shapes, length-map c.args.firsts.now type_of) in
    let vs = chosen_rows c.args.true_column c.args.false_column c.args.mask.now.bits (rows first) (rows second) in
    let p = err_from_is_err_and c.from_residual-in_err-field.result c.from_residual-in_err-field.ensures.1 in
    let kind : type_of (field j first) ≡ get_or firsts j of_null = field_type first ss j of_null c.requires.dtypes inside ∙ ap (λ l. get_or l j of_null) shapes in
    let fault = c.in_err-field.field-0.0 in
    let here = subst (λ s. IsLimitOrMemory (exceeded_taken s (field j first ∷ field j second ∷ []) (map (part_at j) vs)) fault) kind c.in_err-field.ensures.refusal in
    let many : j < length firsts = omega (arith, c.loop-j-test.true, length-map c.args.firsts.now type_of) in
    let place : 0 + j ≡ j = omega arith in
    rw (p.1, p.2) (refused_more _ _ fault
    (λ limit h. past_at firsts 0 j of_null (first ∷ second ∷ []) vs limit many (subst (λ n. exceeded_taken (get_or firsts j of_null) (map (field n) (first ∷ second ∷ [])) (map (part_at n) vs) limit) (sym place) h)) here)

pub field_choices-returns-clause-parts : goal.field_choices-returns-clause-parts
field_choices-returns-clause-parts t c =
    let all : c.loop-j.j ≡ length c.args.firsts.now = omega (arith, c.loop-j-test.false, c.loop-j.auto.j-end) in
    subst (λ n. map rows c.loop-j.fields.items ≡ parts_of n (chosen_rows c.args.true_column c.args.false_column c.args.mask.now.bits (rows c.args.if_true.now.column) (rows c.args.if_false.now.column))) all c.loop-j.invariant.parts

pub field_choices-returns-clause-dtypes : goal.field_choices-returns-clause-dtypes
field_choices-returns-clause-dtypes t c =
    c.loop-j.invariant.dtypes ∙ take_all c.loop-j.j (map type_of c.args.firsts.now) (omega (arith, c.loop-j-test.false, length-map c.args.firsts.now type_of))

pub field_choices-returns-clause-within : goal.field_choices-returns-clause-within
field_choices-returns-clause-within t c =
    let firsts = map type_of c.args.firsts.now in
    let columns = c.args.if_true.now.column ∷ c.args.if_false.now.column ∷ [] in
    let vs = chosen_rows c.args.true_column c.args.false_column c.args.mask.now.bits (rows c.args.if_true.now.column) (rows c.args.if_false.now.column) in
    fields_pass firsts 0 columns vs
    (λ k below. let place : k ≡ 0 + k = omega arith in
    subst (λ n. ExceedsNone (exceeded_taken (get_or firsts k of_null) (map (field n) columns) (map (part_at n) vs))) place
    (c.loop-j.invariant.within k (omega (arith, below, length-map c.args.firsts.now type_of, c.loop-j-test.false))))

-- ---- the struct column

pub struct_choice-field_choices-requires : goal.struct_choice-field_choices-requires
struct_choice-field_choices-requires t c =
    let first = c.args.if_true.now.column in
    let kind : type_of first ≡ of_struct (shapes_of (map type_of c.deref.result.now)) =
    ap type_of (sym c.as_column.ensures.column ∙ c.in-Struct.is) ∙ type_of-Struct c.in-Struct.len c.in-Struct.firsts c.in-Struct.validity ∙ ap (λ l. of_struct (shapes_of (map type_of l))) (sym c.deref.ensures.value)
    in
    (omega (arith, c.decreases), (c.requires.true_bare, (c.requires.false_bare, (kind, c.requires.sides))))

-- ---- a field

pub field_choice-try_clone-requires : goal.field_choice-try_clone-requires
field_choice-try_clone-requires t c =
    ap well_formed (c.field_of.ensures ∙ ap (field c.args.j) c.as_column.ensures.column)
    ∙ first_formed c.args.if_true.now.column c.args.if_false.now.column c.args.true_column c.args.false_column c.args.mask.now.bits c.requires.true_bare c.requires.false_bare c.requires.sides.alike c.requires.sides.true_side c.requires.sides.false_side c.args.j c.requires.inside c.args.if_true.now.formed c.args.if_false.now.formed

pub field_choice-try_clone-requires-2 : goal.field_choice-try_clone-requires-2
field_choice-try_clone-requires-2 t c =
    ap well_formed (c.field_of-2.ensures ∙ ap (field c.args.j) c.as_column-2.ensures.column)
    ∙ second_formed c.args.if_true.now.column c.args.if_false.now.column c.args.true_column c.args.false_column c.args.mask.now.bits c.requires.true_bare c.requires.false_bare c.requires.sides.alike c.requires.sides.true_side c.requires.sides.false_side c.args.j c.requires.inside c.args.if_true.now.formed c.args.if_false.now.formed

pub field_choice-choice-requires : goal.field_choice-choice-requires
field_choice-choice-requires t c =
    let first = copy_of c.in_ok-column.column _ (field c.args.j c.args.if_true.now.column) c.in_ok-column.ensures.rows c.in_ok-column.ensures.dtype c.in_ok-column.ensures.buffers (c.field_of.ensures ∙ ap (field c.args.j) c.as_column.ensures.column) in
    let second = copy_of c.in_ok-column-2.column _ (field c.args.j c.args.if_false.now.column) c.in_ok-column-2.ensures.rows c.in_ok-column-2.ensures.dtype c.in_ok-column-2.ensures.buffers (c.field_of-2.ensures ∙ ap (field c.args.j) c.as_column-2.ensures.column) in
    let smaller = field_size c.args.if_true.now.column c.args.j c.requires.true_bare c.requires.inside in (
      omega (arith, c.decreases, smaller, ap size_of first.same_type),
      record {
        alike = copies_alike c.args.if_true.now.column c.args.if_false.now.column c.args.true_column c.args.false_column c.args.mask.now.bits c.requires.true_bare c.requires.false_bare c.requires.sides.alike c.requires.sides.true_side c.requires.sides.false_side c.args.j c.requires.inside c.args.if_true.now.formed c.args.if_false.now.formed _ _ first second;
        true_side = copy_true_side c.args.if_true.now.column c.args.if_false.now.column c.args.true_column c.args.false_column c.args.mask.now.bits c.requires.true_bare c.requires.false_bare c.requires.sides.alike c.requires.sides.true_side c.requires.sides.false_side c.args.j c.requires.inside c.args.if_true.now.formed c.args.if_false.now.formed _ _ first second;
        false_side = copy_false_side c.args.if_true.now.column c.args.if_false.now.column c.args.true_column c.args.false_column c.args.mask.now.bits c.requires.true_bare c.requires.false_bare c.requires.sides.alike c.requires.sides.true_side c.requires.sides.false_side c.args.j c.requires.inside c.args.if_true.now.formed c.args.if_false.now.formed _ _ first second;
        few = c.requires.sides.few;
      },
    )

pub field_choice-returns-in_err-column-3 : goal.field_choice-returns-in_err-column-3
field_choice-returns-in_err-column-3 t c =
    let first = copy_of c.in_ok-column.column _ (field c.args.j c.args.if_true.now.column) c.in_ok-column.ensures.rows c.in_ok-column.ensures.dtype c.in_ok-column.ensures.buffers (c.field_of.ensures ∙ ap (field c.args.j) c.as_column.ensures.column) in
    let second = copy_of c.in_ok-column-2.column _ (field c.args.j c.args.if_false.now.column) c.in_ok-column-2.ensures.rows c.in_ok-column-2.ensures.dtype c.in_ok-column-2.ensures.buffers (c.field_of-2.ensures ∙ ap (field c.args.j) c.as_column-2.ensures.column) in
    let p = err_from_is_err_and c.from_residual-in_err-column-3.result c.from_residual-in_err-column-3.ensures.1 in
    record {
      rows = search rules;
      dtype = search rules;
      formed = search rules;
      within = search rules;
      refusal = rw (p.1, p.2) (copies_refused c.args.if_true.now.column c.args.if_false.now.column c.args.true_column c.args.false_column c.args.mask.now.bits c.requires.true_bare c.requires.false_bare c.requires.sides.alike c.requires.sides.true_side c.requires.sides.false_side c.args.j c.requires.inside c.args.if_true.now.formed c.args.if_false.now.formed _ _ first second c.in_err-column-3.field-0.0 c.in_err-column-3.ensures.refusal);
    }

pub field_choice-returns : goal.field_choice-returns
field_choice-returns t c =
    let first = copy_of c.in_ok-column.column _ (field c.args.j c.args.if_true.now.column) c.in_ok-column.ensures.rows c.in_ok-column.ensures.dtype c.in_ok-column.ensures.buffers (c.field_of.ensures ∙ ap (field c.args.j) c.as_column.ensures.column) in
    let second = copy_of c.in_ok-column-2.column _ (field c.args.j c.args.if_false.now.column) c.in_ok-column-2.ensures.rows c.in_ok-column-2.ensures.dtype c.in_ok-column-2.ensures.buffers (c.field_of-2.ensures ∙ ap (field c.args.j) c.as_column-2.ensures.column) in
    record {
      rows = c.in_ok-column-3.ensures.rows ∙ copies_chosen c.args.if_true.now.column c.args.if_false.now.column c.args.true_column c.args.false_column c.args.mask.now.bits c.requires.true_bare c.requires.false_bare c.requires.sides.alike c.requires.sides.true_side c.requires.sides.false_side c.args.j c.requires.inside c.args.if_true.now.formed c.args.if_false.now.formed _ _ first second;
      dtype = c.in_ok-column-3.ensures.dtype ∙ first.same_type;
      formed = c.in_ok-column-3.field-0.formed;
      within = copies_pass c.args.if_true.now.column c.args.if_false.now.column c.args.true_column c.args.false_column c.args.mask.now.bits c.requires.true_bare c.requires.false_bare c.requires.sides.alike c.requires.sides.true_side c.requires.sides.false_side c.args.j c.requires.inside c.args.if_true.now.formed c.args.if_false.now.formed _ _ first second c.in_ok-column-3.ensures.within;
      refusal = search rules;
    }

-- ---- the struct column

pub struct_choice-returns-in_err-fields : goal.struct_choice-returns-in_err-fields
struct_choice-returns-in_err-fields t c =
    let first = c.args.if_true.now.column in
    let second = c.args.if_false.now.column in
    let kind : type_of first ≡ of_struct (shapes_of (map type_of c.deref.result.now)) =
    ap type_of (sym c.as_column.ensures.column ∙ c.in-Struct.is) ∙ type_of-Struct c.in-Struct.len c.in-Struct.firsts c.in-Struct.validity ∙ ap (λ l. of_struct (shapes_of (map type_of l))) (sym c.deref.ensures.value)
    in
    let vs = chosen_rows c.args.true_column c.args.false_column c.args.mask.now.bits (rows first) (rows second) in
    record {
      rows = search rules;
      dtype = search rules;
      within = search rules;
      refusal =
          let p = err_from_is_err_and c.from_residual.result c.from_residual.ensures.1 in
          rw (p.1, p.2) (subst (λ s. IsLimitOrMemory (exceeded_taken s (first ∷ second ∷ []) vs) c.in_err-fields.field-0.0) (sym kind) c.in_err-fields.ensures.refusal);
    }

pub struct_choice-invariant_of-result : goal.struct_choice-invariant_of-result
struct_choice-invariant_of-result t c =
    let same = c.len.ensures in
    record {
      formed = fields_make c.len.result c.in_ok-fields.fields None
          (record { few = omega (arith, same, c.requires.sides.few); covered = λ v there. absurd (cc there); fields = subst (λ n. All (IsField n) c.in_ok-fields.fields.items) (sym same) c.in_ok-fields.ensures.formed });
    }

pub struct_choice-returns : goal.struct_choice-returns
struct_choice-returns t c =
    let first = c.args.if_true.now.column in
    let second = c.args.if_false.now.column in
    let firsts = map type_of c.deref.result.now in
    let kind : type_of first ≡ of_struct (shapes_of firsts) =
    ap type_of (sym c.as_column.ensures.column ∙ c.in-Struct.is) ∙ type_of-Struct c.in-Struct.len c.in-Struct.firsts c.in-Struct.validity ∙ ap (λ l. of_struct (shapes_of (map type_of l))) (sym c.deref.ensures.value)
    in
    let vs = chosen_rows c.args.true_column c.args.false_column c.args.mask.now.bits (rows first) (rows second) in
    let fields = c.in_ok-fields.fields in
    let same = c.len.ensures in
    let dtypes = c.in_ok-fields.ensures.dtypes in
    let count : length (shape_list (shapes_of firsts)) ≡ length fields.items = ap length (listed_shapes firsts) ∙ ap length (sym dtypes) ∙ length-map fields.items type_of in
    let many : length c.deref.result.now ≡ length fields.items = sym (length-map c.deref.result.now type_of) ∙ ap length (sym dtypes) ∙ length-map fields.items type_of in
    record {
      rows = rows-Struct c.len.result fields None
          ∙ tuples_rebuilt (length fields.items) vs (map rows fields.items) None c.len.result
          (λ k. subst (λ n. IsTuple n (get_or vs k Null)) count (chosen_tuples first second c.args.true_column c.args.false_column c.args.mask.now.bits c.requires.true_bare c.requires.false_bare (shapes_of firsts) kind (sym c.requires.sides.alike ∙ kind) c.requires.sides.true_side c.requires.sides.false_side k))
          (chosen_count first second c.args.true_column c.args.false_column c.args.mask.now.bits c.requires.true_bare c.requires.false_bare (shapes_of firsts) kind (sym c.requires.sides.alike ∙ kind) c.requires.sides.true_side c.requires.sides.false_side ∙ sym same)
          (subst (λ n. map rows fields.items ≡ parts_of n vs) many c.in_ok-fields.ensures.parts)
          (ap (λ n. replicate n true) same ∙ chosen_valid first second c.args.true_column c.args.false_column c.args.mask.now.bits c.requires.true_bare c.requires.false_bare (shapes_of firsts) kind (sym c.requires.sides.alike ∙ kind) c.requires.sides.true_side c.requires.sides.false_side);
      dtype = type_of-Struct c.len.result fields None ∙ ap (λ l. of_struct (shapes_of l)) dtypes ∙ sym kind;
      within = subst (λ s. ExceedsNone (exceeded_taken s (first ∷ second ∷ []) vs)) (sym kind) c.in_ok-fields.ensures.within;
      refusal = search rules;
    }
