-- Binary rows and where they begin in the bytes of their source, for the internal steps of a take.
use Rattle.std.specs.Prelude.{◌≡◌, ℕ, ◌+◌, ◌≤◌, ℤ, pos, negsuc, List, None, length, take, drop}
use Rattle.std.specs.List.{AllZip}
use Rattle.sel_bits.specs.declared.native.NativeType.{Ghosts}
use Rattle.sel_arrow.specs.Pieces.{byte_rows}
use Rattle.sel_arrow.specs.Value.{Value}
use Rattle.sel_arrow.specs.declared.binary.BinaryArray.{BinaryArray}
use Rattle.sel_kernels.specs.JoinedBytes.{bytes_of}
use Rattle.sel_kernels.specs.Need.{byte_count}

-- The rows of a binary column without its validity: row i is the bytes from offset i up to offset
-- i + 1.
abbrev pub plain_rows : {O : Type 0} {type : Ghosts O} → BinaryArray O type → List Value
plain_rows column = byte_rows column.offsets column.values None

-- The bytes of a row are those from this position on.
abbrev pub BeginsAt : List ℕ → Value → ℤ → Type 0
BeginsAt bytes row (pos start) =
    (start + byte_count row ≤ length bytes)
    × (bytes_of row ≡ take (byte_count row) (drop start bytes))
BeginsAt bytes row (negsuc start) = ⊥

-- The bytes of each row are those from its start on.
abbrev pub AreStarts : {T : Type 0} → (T → ℤ) → List ℕ → List Value → List T → Type 0
AreStarts number bytes rows starts =
    AllZip (λ row start. BeginsAt bytes row (number start)) rows starts
