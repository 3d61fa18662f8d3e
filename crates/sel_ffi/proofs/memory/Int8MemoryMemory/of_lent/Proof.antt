-- `of_lent` moves three words, and the memory goes with them.
use Rattle.sel_ffi.proofs.{MemoryMoves.moved, MemoryStructs.int8, MemoryStructs.plain}
use Rattle.sel_ffi.proofs.memory.Int8MemoryMemory.of_lent.{Statement.statement, Code.unfolded}

pub of_lent_spec : {M : Type 1} → statement M
of_lent_spec 𝓤 𝓛 𝓜 𝓡 wired = moved 𝓛 𝓜 𝓡 plain int8 _ _ (unfolded 𝓤 𝓛.H 𝓜 𝓡 wired)
