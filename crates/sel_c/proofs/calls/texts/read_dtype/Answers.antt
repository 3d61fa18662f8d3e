use Rattle.std.proofs.Common.{◌≡◌, ◌<◌, true, arith, ap, sym, subst, ◌∙◌, nat_lt}
use Rattle.std.proofs.lemmas.{Str.IsUtf8-from_is_utf8, Bool.or_left, Bool.or_right}
use Rattle.sel_c.proofs.{Common.nat_tests, Common.shape_of, Common.exceeds_limit, Common.depth, WideTypes.wide_past}
use Rattle.sel_text.{specs.Spelling.spelled, specs.declared.build.NullSlots.TheVariants.Zeros, proofs.OneType.one_spelled}
use Rattle.sel_c.proofs.calls.texts.read_dtype.Goals as goal

pub returns-in-Err-clause-refused : goal.returns-in-Err-clause-refused
returns-in-Err-clause-refused c = λ shape named. absurd (c.in-Err.ensures.cases.0 (IsUtf8-from_is_utf8 c.args.bytes.now named.1))

pub returns-in-Err-parse_dtype-clause-limit : goal.returns-in-Err-parse_dtype-clause-limit
returns-in-Err-parse_dtype-clause-limit c = λ limit shape values named.
    let read : c.in-Ok.text.now ≡ c.args.bytes.now = c.in-Ok.ensures.cases.0 in
    let deep : 64 < depth shape = c.in-Err-parse_dtype.ensures.limit limit shape named.0 (ap spelled read ∙ named.2) in
    or_left (nat_lt 64 (depth shape)) (exceeds_limit Zeros shape values) (grind (arith, nat_tests, deep))

pub returns-then-not-widths_fit-clause-limit : goal.returns-then-not-widths_fit-clause-limit
returns-then-not-widths_fit-clause-limit c = λ limit shape values named.
    let read : c.in-Ok.text.now ≡ c.args.bytes.now = c.in-Ok.ensures.cases.0 in
    let same : shape_of c.in-Ok-parse_dtype.dtype ≡ shape = one_spelled c.in-Ok.text.now (shape_of c.in-Ok-parse_dtype.dtype) shape c.in-Ok-parse_dtype.ensures.widths named.0 c.in-Ok-parse_dtype.ensures.text (ap spelled read ∙ named.2) in
    let past = wide_past Zeros c.in-Ok-parse_dtype.dtype (sym c.widths_fit.ensures ∙ c.if-not-widths_fit.true) values in
    or_right (nat_lt 64 (depth shape)) (exceeds_limit Zeros shape values) (subst (λ s. exceeds_limit Zeros s values ≡ true) same past)

pub returns-in-Err-clause-limit : goal.returns-in-Err-clause-limit
returns-in-Err-clause-limit c = λ limit shape values named. absurd (c.in-Err.ensures.cases.0 (IsUtf8-from_is_utf8 c.args.bytes.now named.1))

pub returns-in-Err-clause-syntax : goal.returns-in-Err-clause-syntax
returns-in-Err-clause-syntax c = c.not_utf8_type.ensures.syntax c.args.bytes.now c.find_type_error.ensures

pub returns-in-Err-clause-place : goal.returns-in-Err-clause-place
returns-in-Err-clause-place c = c.not_utf8_type.ensures.place c.args.bytes.now c.find_type_error.ensures
