use Rattle.sel_gather.proofs.{Common.expand}
use Rattle.sel_gather.proofs.NearRows.{near_may}
use Rattle.sel_gather.proofs.Common.{ap, columns_of, type_of, picked}
use Rattle.sel_gather.proofs.Collected.{plainly}
use Rattle.sel_gather.proofs.copy.collect_leaf.Goals as goal

pub invariant_of-plan : goal.invariant_of-plan
invariant_of-plan c = record { count = c.requires.may.len; few = c.requires.may.few; near = near_may c.args.sources.now (expand c.args.runs.now) c.args.len c.requires.may }

pub returns-in-Int8 : goal.returns-in-Int8
returns-in-Int8 c = plainly c.gather_primitive.result (type_of c.args.first.now) _ (columns_of c.args.sources.now) (picked c.args.sources.now c.args.runs.now) (ap type_of c.in-Int8.is) (λ limit h. h) c.gather_primitive.ensures.rows c.gather_primitive.ensures.dtype c.gather_primitive.ensures.formed c.gather_primitive.ensures.refusal

pub returns-in-Int16 : goal.returns-in-Int16
returns-in-Int16 c = plainly c.gather_primitive-in-Int16.result (type_of c.args.first.now) _ (columns_of c.args.sources.now) (picked c.args.sources.now c.args.runs.now) (ap type_of c.in-Int16.is) (λ limit h. h) c.gather_primitive-in-Int16.ensures.rows c.gather_primitive-in-Int16.ensures.dtype c.gather_primitive-in-Int16.ensures.formed c.gather_primitive-in-Int16.ensures.refusal

pub returns-in-Int32 : goal.returns-in-Int32
returns-in-Int32 c = plainly c.gather_primitive-in-Int32.result (type_of c.args.first.now) _ (columns_of c.args.sources.now) (picked c.args.sources.now c.args.runs.now) (ap type_of c.in-Int32.is) (λ limit h. h) c.gather_primitive-in-Int32.ensures.rows c.gather_primitive-in-Int32.ensures.dtype c.gather_primitive-in-Int32.ensures.formed c.gather_primitive-in-Int32.ensures.refusal

pub returns-in-Int64 : goal.returns-in-Int64
returns-in-Int64 c = plainly c.gather_primitive-in-Int64.result (type_of c.args.first.now) _ (columns_of c.args.sources.now) (picked c.args.sources.now c.args.runs.now) (ap type_of c.in-Int64.is) (λ limit h. h) c.gather_primitive-in-Int64.ensures.rows c.gather_primitive-in-Int64.ensures.dtype c.gather_primitive-in-Int64.ensures.formed c.gather_primitive-in-Int64.ensures.refusal

pub returns-in-Int128 : goal.returns-in-Int128
returns-in-Int128 c = plainly c.gather_primitive-in-Int128.result (type_of c.args.first.now) _ (columns_of c.args.sources.now) (picked c.args.sources.now c.args.runs.now) (ap type_of c.in-Int128.is) (λ limit h. h) c.gather_primitive-in-Int128.ensures.rows c.gather_primitive-in-Int128.ensures.dtype c.gather_primitive-in-Int128.ensures.formed c.gather_primitive-in-Int128.ensures.refusal

pub returns-in-UInt8 : goal.returns-in-UInt8
returns-in-UInt8 c = plainly c.gather_primitive-in-UInt8.result (type_of c.args.first.now) _ (columns_of c.args.sources.now) (picked c.args.sources.now c.args.runs.now) (ap type_of c.in-UInt8.is) (λ limit h. h) c.gather_primitive-in-UInt8.ensures.rows c.gather_primitive-in-UInt8.ensures.dtype c.gather_primitive-in-UInt8.ensures.formed c.gather_primitive-in-UInt8.ensures.refusal

pub returns-in-UInt16 : goal.returns-in-UInt16
returns-in-UInt16 c = plainly c.gather_primitive-in-UInt16.result (type_of c.args.first.now) _ (columns_of c.args.sources.now) (picked c.args.sources.now c.args.runs.now) (ap type_of c.in-UInt16.is) (λ limit h. h) c.gather_primitive-in-UInt16.ensures.rows c.gather_primitive-in-UInt16.ensures.dtype c.gather_primitive-in-UInt16.ensures.formed c.gather_primitive-in-UInt16.ensures.refusal

pub returns-in-UInt32 : goal.returns-in-UInt32
returns-in-UInt32 c = plainly c.gather_primitive-in-UInt32.result (type_of c.args.first.now) _ (columns_of c.args.sources.now) (picked c.args.sources.now c.args.runs.now) (ap type_of c.in-UInt32.is) (λ limit h. h) c.gather_primitive-in-UInt32.ensures.rows c.gather_primitive-in-UInt32.ensures.dtype c.gather_primitive-in-UInt32.ensures.formed c.gather_primitive-in-UInt32.ensures.refusal

pub returns-in-UInt64 : goal.returns-in-UInt64
returns-in-UInt64 c = plainly c.gather_primitive-in-UInt64.result (type_of c.args.first.now) _ (columns_of c.args.sources.now) (picked c.args.sources.now c.args.runs.now) (ap type_of c.in-UInt64.is) (λ limit h. h) c.gather_primitive-in-UInt64.ensures.rows c.gather_primitive-in-UInt64.ensures.dtype c.gather_primitive-in-UInt64.ensures.formed c.gather_primitive-in-UInt64.ensures.refusal

pub returns-in-UInt128 : goal.returns-in-UInt128
returns-in-UInt128 c = plainly c.gather_primitive-in-UInt128.result (type_of c.args.first.now) _ (columns_of c.args.sources.now) (picked c.args.sources.now c.args.runs.now) (ap type_of c.in-UInt128.is) (λ limit h. h) c.gather_primitive-in-UInt128.ensures.rows c.gather_primitive-in-UInt128.ensures.dtype c.gather_primitive-in-UInt128.ensures.formed c.gather_primitive-in-UInt128.ensures.refusal

pub returns-in-Boolean : goal.returns-in-Boolean
returns-in-Boolean c = plainly c.gather_boolean.result (type_of c.args.first.now) _ (columns_of c.args.sources.now) (picked c.args.sources.now c.args.runs.now) (ap type_of c.in-Boolean.is) (λ limit h. h) c.gather_boolean.ensures.rows c.gather_boolean.ensures.dtype c.gather_boolean.ensures.formed c.gather_boolean.ensures.refusal
