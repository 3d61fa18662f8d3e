use Rattle.sel_c.proofs.Common.{Value, ok}
use Rattle.sel_c.specs.Parsed.{IsTypeText}
use Rattle.sel_ffi.specs.Status.{out_of_memory, text_limit, IsOneOf}
use Rattle.std.proofs.Common.{List, [], ◌∷◌, rules, ◌≡◌, ◌≤◌, inl, true, false, length, sym, arith, subst, nat_lt}
use Rattle.std.proofs.lemmas.Bool.{or_from, or_right}
use Rattle.sel_c.proofs.Common.{shape_of, Shape, exceeds_limit, depth, nat_tests}
use Rattle.sel_c.specs.Parsed.{ExceedsAlways, IsRowsText}
use Rattle.sel_c.proofs.WideTypes.{exceeds_not_always}
use Rattle.sel_text.{specs.TextErrors.HasFittingRows, specs.declared.build.NullSlots.TheVariants.Zeros, proofs.OneType.one_spelled}
use Rattle.sel_c.proofs.calls.texts.parse_into.Goals as goal

pub returns-in-Err : goal.returns-in-Err
returns-in-Err c =
    record {
      dtype = search rules;
      rows = search rules;
      named = search rules;
      typed = search rules;
      within = search rules;
      accepted = search rules;
      limit = search rules;
      type_error = search rules;
      row_error = search rules;
      misfit = search rules;
      type_read = search rules;
      type_limit = λ shape named always. c.type_error_status.ensures.short (c.in-Err.ensures.refused shape named);
      fit = λ limit shape named. inl (λ values. c.in-Err.ensures.limit (c.type_error_status.ensures.limit limit) shape values named);
      type_place = λ is. c.type_error_status.ensures.place (length c.args.name.now) c.in-Err.ensures.place is;
      place = search rules;
      no_place = search rules;
      status = search rules;
    }

pub returns-in-Err-made : goal.returns-in-Err-made
returns-in-Err-made c =
    let same = λ (shape : Shape) (named : IsTypeText shape c.args.name.now). one_spelled c.args.name.now
    (shape_of c.in-Ok.dtype) shape c.in-Ok.ensures.narrow named.0 c.in-Ok.ensures.text named.2 in
    let accepted = λ (shape : Shape) (values : List Value) (named : IsTypeText shape c.args.name.now) (texts : IsRowsText shape values c.args.text.now).
    c.rows_error_status.ensures.short (c.in-Err-made.ensures.refused values
    (subst (λ s. IsRowsText s values c.args.text.now) (sym (same shape named)) texts)) in
    let limit = λ (limit : c.rows_error_status.result ≡ text_limit) (shape : Shape) (values : List Value) (named : IsTypeText shape c.args.name.now)
    (texts : IsRowsText shape values c.args.text.now).
    or_right (nat_lt 64 (depth shape)) (exceeds_limit Zeros shape values) (subst (λ s. exceeds_limit Zeros s values ≡ true) (same shape named)
    (c.in-Err-made.ensures.limit (c.rows_error_status.ensures.limit limit) values
    (subst (λ s. IsRowsText s values c.args.text.now) (sym (same shape named)) texts))) in
    let fit = λ (limit : c.rows_error_status.result ≡ text_limit) (shape : Shape) (named : IsTypeText shape c.args.name.now).
    subst (λ s. HasFittingRows s c.args.text.now) (same shape named) (c.in-Err-made.ensures.fit (c.rows_error_status.ensures.limit limit)) in
    let type_limit : (shape : Shape) → IsTypeText shape c.args.name.now → ExceedsAlways shape → IsOneOf c.rows_error_status.result (out_of_memory ∷ text_limit ∷ []) =
    λ shape named always. absurd (exceeds_not_always c.in-Ok.dtype c.in-Ok.ensures.fit c.in-Ok.ensures.levels (subst ExceedsAlways (sym (same shape named)) always)) in
    search (rules, accepted, limit, fit, type_limit, or_right, c.rows_error_status.ensures.place (length c.args.text.now) c.in-Err-made.ensures.place)

pub returns-in-Ok-made : goal.returns-in-Ok-made
returns-in-Ok-made c =
    let within = λ (is : c.put.result ≡ ok) (shape : Shape) (values : List Value) (named : IsTypeText shape c.args.name.now)
    (texts : IsRowsText shape values c.args.text.now).
    let same : shape_of c.in-Ok.dtype ≡ shape = one_spelled c.args.name.now
    (shape_of c.in-Ok.dtype) shape c.in-Ok.ensures.narrow named.0 c.in-Ok.ensures.text named.2 in
    let levels : depth shape ≤ 64 = subst (λ s. depth s ≤ 64) same c.in-Ok.ensures.levels in
    let shallow : nat_lt 64 (depth shape) ≡ false = grind (arith, nat_tests, levels) in
    let fits = c.in-Ok-made.ensures.within values (subst (λ s. IsRowsText s values c.args.text.now) (sym same) texts) in
    or_from (nat_lt 64 (depth shape)) (exceeds_limit Zeros shape values) shallow (subst (λ s. exceeds_limit Zeros s values ≡ false) same fits) in
    let type_limit : (shape : Shape) → IsTypeText shape c.args.name.now → ExceedsAlways shape → IsOneOf c.put.result (out_of_memory ∷ text_limit ∷ []) =
    λ shape named always.
    let same : shape_of c.in-Ok.dtype ≡ shape = one_spelled c.args.name.now
    (shape_of c.in-Ok.dtype) shape c.in-Ok.ensures.narrow named.0 c.in-Ok.ensures.text named.2 in
    absurd (exceeds_not_always c.in-Ok.dtype c.in-Ok.ensures.fit c.in-Ok.ensures.levels (subst ExceedsAlways (sym same) always)) in
    search (rules, within, type_limit)

pub put-requires : goal.put-requires
put-requires c =
    let levels = c.in-Ok.ensures.levels in
    subst (λ (s : Shape). depth s ≤ 128) (sym c.in-Ok-made.ensures.dtype) (omega (arith, levels))
