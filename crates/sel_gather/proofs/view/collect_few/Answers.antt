use Rattle.sel_gather.proofs.Common.{◌≡◌, ◌∙◌, length, ap, sym, arith, view_rows, view_value, expand}
use Rattle.sel_gather.proofs.Grown.{made_rows, finished}
use Rattle.sel_gather.proofs.view.collect_few.Goals as goal

pub validity_from-requires : goal.validity_from-requires
validity_from-requires g c =
    let grown = c.in_ok-views.field-0 in
    (made_rows (view_value g.B.NullSlots.buffers) _ grown.views.items _ grown.validity _ (expand c.args.runs.now) c.args.len grown.lengths c.in_ok-with_capacity.ensures.items c.in_ok-with_capacity-2.ensures.value c.requires.len c.in_ok-views.ensures.rows).1

pub invariant_of-result : goal.invariant_of-result
invariant_of-result g c =
    let grown = c.in_ok-views.field-0 in
    let made = made_rows (view_value g.B.NullSlots.buffers) _ grown.views.items _ grown.validity _ (expand c.args.runs.now) c.args.len grown.lengths c.in_ok-with_capacity.ensures.items c.in_ok-with_capacity-2.ensures.value c.requires.len c.in_ok-views.ensures.rows in
    let items = c.in_ok-views-2.ensures.items in
    let buffers = c.in_ok-buffers.ensures.buffers ∙ c.requires.joined in
    let count : length c.in_ok-views-2.views ≡ c.args.len = ap length items ∙ sym grown.lengths ∙ made.1 in
    record {
      rows_fit = omega (arith, count, c.requires.room);
      buffers_fit = omega (arith, ap length buffers, c.requires.few);
      validity_fits = λ v there. c.in_ok-validity.ensures.covers v there ∙ sym count;
      placed = rw (items, buffers) grown.placed;
    }

pub returns-clause-rows : goal.returns-clause-rows
returns-clause-rows g c =
    let f = view_value g.B.NullSlots.buffers in
    let grown = c.in_ok-views.field-0 in
    let made = made_rows f _ grown.views.items _ grown.validity _ (expand c.args.runs.now) c.args.len grown.lengths c.in_ok-with_capacity.ensures.items c.in_ok-with_capacity-2.ensures.value c.requires.len c.in_ok-views.ensures.rows in
    ap (λ xs. view_rows xs c.in_ok-buffers.buffers c.in_ok-validity.validity) c.in_ok-views-2.ensures.items
    ∙ ap (λ bs. view_rows grown.views.items bs c.in_ok-validity.validity) (c.in_ok-buffers.ensures.buffers ∙ c.requires.joined)
    ∙ finished f grown.views.items c.in_ok-validity.validity grown.validity c.args.len c.in_ok-validity.ensures.bits (sym grown.lengths ∙ made.1) ∙ made.0
