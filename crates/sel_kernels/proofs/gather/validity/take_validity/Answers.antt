use Rattle.sel_kernels.proofs.Common.{◌∙◌, map, pos, length, None, replicate, true, ap, sym, Bits, primitive_rows, masked, Number, pick_of, valid_pick}
use Rattle.sel_kernels.proofs.Takes.{named_bits, none_null, picked_valid}
use Rattle.sel_kernels.proofs.gather.validity.take_validity.Goals as goal

pub returns-in_ok-take_bits_or-in-Some-clause-bits : goal.returns-in_ok-take_bits_or-in-Some-clause-bits
returns-in_ok-take_bits_or-in-Some-clause-bits c =
    let rows = primitive_rows c.args.indices.now in
    c.in_ok-take_bits_or-in-Some.ensures.bits ∙ picked_valid c.in-Some.bits rows ∙ sym (ap (λ v. map (valid_pick v) (map pick_of rows)) c.in-Some.is)

pub returns-in-None-validity-clause-bits : goal.returns-in-None-validity-clause-bits
returns-in-None-validity-clause-bits c =
    let indices = c.args.indices.now in
    let whole = ap (λ v. masked v (map (λ x. Number (pos x)) indices.values)) c.in-None-validity.is in
    ap (λ l. replicate (length l) true) whole ∙ none_null indices.values
    ∙ sym (ap (λ l. map (valid_pick None) (map pick_of l)) whole)
    ∙ sym (ap (λ v. map (valid_pick v) (map pick_of (primitive_rows indices))) c.in-None.is)

pub returns-in_ok-try_clone-in-Some-validity-clause-bits : goal.returns-in_ok-try_clone-in-Some-validity-clause-bits
returns-in_ok-try_clone-in-Some-validity-clause-bits c =
    let indices = c.args.indices.now in
    let named = c.in-Some-validity.named in
    let whole = ap (λ v. masked v (map (λ x. Number (pos x)) indices.values)) c.in-Some-validity.is in
    ap (λ (b : Bits). b.bits) c.in_ok-try_clone-in-Some-validity.ensures.value
    ∙ named_bits named.bits indices.values (indices.validity_fits named c.in-Some-validity.is)
    ∙ sym (ap (λ l. map (valid_pick None) (map pick_of l)) whole)
    ∙ sym (ap (λ v. map (valid_pick v) (map pick_of (primitive_rows indices))) c.in-None.is)
