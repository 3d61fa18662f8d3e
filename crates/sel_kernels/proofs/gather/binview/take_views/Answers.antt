use Rattle.sel_kernels.proofs.Common.{◌≡◌, ◌∙◌, length, pos, refl, ap, sym, arith, primitive_rows, view_value, is_placed, View, length-map}
use Rattle.sel_kernels.proofs.Common.{length-number_rows, length-view_rows, list_all, near_value}
use Rattle.sel_kernels.proofs.Takes.{covers_for, near_rows, passed_near, within_as}
use Rattle.sel_kernels.proofs.gather.binview.take_views.Goals as goal

abbrev no_bytes : View
no_bytes = record { length = 0; prefix = 0; buffer_idx = 0; offset = 0 }

pub invariant_of-result : goal.invariant_of-result
invariant_of-result c =
    let values = c.args.values.now in
    let indices = c.args.indices.now in
    let items = rw c.as_slice.ensures at (c.in_ok-views-2.ensures.items ∙ c.in_ok-views.ensures.items) in
    let same = c.in_ok-buffers.ensures.items in
    let rows = length-number_rows pos indices.values indices.validity in
    let count : length c.in_ok-views-2.views ≡ length (primitive_rows indices) = ap (λ l. length l) items ∙ length-map indices.values (near_value values.views no_bytes) ∙ sym rows in
    record {
      rows_fit = omega (arith, count, rows, indices.rows_fit);
      buffers_fit = rw same values.buffers_fit;
      validity_fits = covers_for c.in_ok-validity.validity c.in_ok-views-2.views (primitive_rows indices) values.validity c.in_ok-validity.ensures.bits count;
      placed = rw same (ap (list_all (is_placed values.buffers)) items ∙ passed_near (is_placed values.buffers) values.views no_bytes indices.values values.placed refl);
    }

pub returns-clause-rows : goal.returns-clause-rows
returns-clause-rows c =
    let values = c.args.values.now in
    let indices = c.args.indices.now in
    let items = rw c.as_slice.ensures at (c.in_ok-views-2.ensures.items ∙ c.in_ok-views.ensures.items) in
    rw c.in_ok-buffers.ensures.items (near_rows (view_value values.buffers) values.validity c.in_ok-validity.validity indices.validity values.views c.in_ok-views-2.views no_bytes indices.values
    values.validity_fits
    (within_as _ (length values.views) (primitive_rows indices) (length-view_rows values.views values.buffers values.validity) c.requires) items c.in_ok-validity.ensures.bits)
