use Rattle.sel_gather.proofs.{Common.refl, Common.is_placed, Common.view_value, Grown.grown_nulls, Raising.nulls_lengths, Raising.nulls_placed}
use Rattle.sel_arrow.specs.declared.view.View.{View}
use Rattle.sel_gather.proofs.view.GrowableViewsGrowable.extend_nulls.Goals as goal

abbrev no_bytes : View
no_bytes = record { length = 0; prefix = 0; buffer_idx = 0; offset = 0 }

pub invariant_of-result : goal.invariant_of-result
invariant_of-result g c =
    let self = c.args.self in
    record {
      joined = self.joined;
      few = self.few;
      started = self.started;
      lengths = nulls_lengths self.views.items c.push_values.new.items.items no_bytes self.validity c.extend_constant.new.self c.args.len self.lengths c.in_ok-push_values.ensures.items c.in_ok-extend_constant.ensures.extended;
      placed = nulls_placed (is_placed g.B.NullSlots.buffers) self.views.items c.push_values.new.items.items no_bytes c.args.len refl self.placed c.in_ok-push_values.ensures.items;
    }

pub returns-clause-rows : goal.returns-clause-rows
returns-clause-rows g c =
    grown_nulls (view_value g.B.NullSlots.buffers) c.args.self.views.items c.push_values.new.items.items no_bytes c.args.self.validity c.extend_constant.new.self c.args.len
    c.args.self.lengths c.in_ok-push_values.ensures.items c.in_ok-extend_constant.ensures.extended
