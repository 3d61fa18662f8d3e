-- `into_lent` moves three words, and the memory goes with them.
use Rattle.sel_ffi.proofs.{MemoryMoves.moved, MemoryStructs.int32, MemoryStructs.plain}
use Rattle.sel_ffi.proofs.memory.Int32MemoryMemory.into_lent.{Statement.statement, Code.unfolded}

pub into_lent_spec : {M : Type 1} → statement M
into_lent_spec 𝓤 𝓛 𝓜 𝓡 wired = moved 𝓛 𝓜 𝓡 int32 plain _ _ (unfolded 𝓤 𝓛.H 𝓜 𝓡 wired)
