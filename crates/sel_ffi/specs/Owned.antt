-- What handles own, and what read access to them owns.
use base.Fml.{Fml, Share, ftrue, feq, fsep, fex, flft}
use denote.RattleType.{RattleType}
use denote.RawPtr.{Ptr, Testable, null_ptr}
use denote.Struct.Lending.{lent_at}
use Rattle.std.specs.Prelude.{ℕ, [], ◌∷◌}
use Rattle.std.specs.Box.Ownership.{box_owns}
use Rattle.std.specs.declared.alloc.Global.{Global}
use Rattle.std.specs.declared.option.Option.{Option}
use Rattle.std.specs.declared.option.Option.TheVariants.{None, Some}
use Rattle.std.specs.contracts.impls.GlobalAllocator.TheImpl.{ghosts}

-- A handle: nothing if the pointer is null, else the box of the value.
abbrev pub held_owns : (R : RattleType) → Global → Ptr → Option R.Denot → Fml
held_owns R alloc p None = feq Ptr p null_ptr
held_owns R alloc p (Some x) = box_owns (ghosts.dealloc_token alloc) R p x

-- A share of the token of lifetime `a`: while it exists, the lifetime does not end.
abbrev pub lasts : ℕ → Fml
lasts a = fex Share (λ share. flft (a ∷ []) share)

-- Read access: nothing if the pointer is null; else the value there, shared for a lifetime that
-- lasts.
abbrev pub ref_owns : (R : RattleType) → Ptr → Option R.Denot → Fml
ref_owns R p None = feq Ptr p null_ptr
ref_owns R p (Some x) =
    fsep (fex (Testable p) (λ _. ftrue)) (fex ℕ (λ a. fsep (lasts a) (lent_at R p x (a ∷ []))))
