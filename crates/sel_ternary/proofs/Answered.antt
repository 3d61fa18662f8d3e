-- A result with a weaker property.
pub use Rattle.std.proofs.lemmas.Result.{IfOk-weaker as answered_by}
