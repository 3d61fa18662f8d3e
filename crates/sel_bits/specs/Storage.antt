-- Values in shared memory.
use Rattle.std.specs.Prelude.{◌≡◌, ℕ, List, length, take, drop}
use Rattle.std.specs.Arc.{arc_slice_items}
use Rattle.sel_bits.specs.Bits.{Bits, bits_from}
use Rattle.sel_bits.specs.declared.storage.Storage.{Storage}
use Rattle.sel_bits.specs.declared.storage.Storage.TheVariants.{Own, Lent, Front, Back}
use Rattle.sel_bits.specs.declared.shared_bytes.SharedBytes.{SharedBytes}
use Rattle.sel_bits.specs.declared.shared_bytes.SharedBytes.TheVariants.{Behind, Own as OwnBytes, Lent as LentBytes}

-- The values of a storage.
abbrev pub storage_items : {X : Type 0} → Storage X → List X
storage_items (Own values) = arc_slice_items values
storage_items (Lent list) = list.value.items
storage_items (Front lists) = lists.value.front.items
storage_items (Back lists) = lists.value.back.items

-- The bytes of shared bytes.
abbrev pub shared_bytes : SharedBytes → List ℕ
shared_bytes (OwnBytes bytes) = arc_slice_items bytes
shared_bytes (LentBytes list) = list.value.items
shared_bytes (Behind lists) = lists.value.back.items

-- The list xs is a part of the list ys.
abbrev pub IsPart : {X : Type 0} → List X → List X → Type 0
IsPart xs ys = (start : ℕ) × (take (length xs) (drop start ys) ≡ xs)

-- The bits are bits of these bytes, from their offset on.
abbrev pub BitsOf : Bits → List ℕ → Type 0
BitsOf b bytes = b.bits ≡ bits_from bytes b.offset (length b.bits)
