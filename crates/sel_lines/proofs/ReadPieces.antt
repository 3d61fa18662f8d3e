-- Lines are made of the bytes that are read, and outputs of the bytes that are written.
use Rattle.std.proofs.lemmas.Grind.{common_steps}
use Rattle.std.proofs.Common.{◌≡◌, ◌≢◌, ◌<◌, ℕ, ◌+◌, ◌-◌, true, false, List, [], ◌∷◌, ◌++◌, length, take, drop, Option, Result, Ok, arith}
use Rattle.std.proofs.{lemmas.List.Elements.All-push, lemmas.List.take_rest, Math.Seq.take-add, KnownBytes.Appends-trans}
use Rattle.std.specs.Io.KnownBytes.{Appends}
use Rattle.sel_lines.specs.Counted.{has_write_failed}
use Rattle.sel_lines.specs.Lines.{HasNoFeed}

pub no_feed_push : (line : List ℕ) (byte : ℕ) → HasNoFeed line → byte ≢ 10 → HasNoFeed (line ++ (byte ∷ []))
no_feed_push line byte before here = All-push (λ b. b ≢ 10) line byte before here

-- A write of the rest, of which some bytes were taken.
pub sent_more : (a b c : Option (List ℕ)) (text : List ℕ) (i n : ℕ) → Appends a b (take i text) → Appends b c (take n (take (length text - i) (drop i text))) → Appends a c (take (i + n) text)
sent_more a b c text i n before now = rw take-add (Appends-trans a b c _ _ before (rw take_rest at now))

-- ---- whether a write failed

pub some_taken : {E : Type 0} (r : Result ℕ E) (n : ℕ) (bytes : List ℕ) → r ≡ Ok n → n ≢ 0 → has_write_failed r bytes ≡ false
some_taken r n bytes is some = grind (arith, common_steps)

pub none_taken : {E : Type 0} (r : Result ℕ E) (n : ℕ) (bytes : List ℕ) → r ≡ Ok n → n ≡ 0 → 0 < length bytes → has_write_failed r bytes ≡ true
none_taken r n bytes is none long = grind (arith, common_steps)
