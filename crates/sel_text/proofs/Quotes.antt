-- The content of quotes, byte by byte.
use Rattle.std.proofs.Common.{◌≡◌, ◌≢◌, ℕ, ◌+◌, ◌≤◌, ◌<◌, ◌/◌, Bool, true, false, List, [], ◌∷◌, ◌++◌, get_or, drop, refl, ap, sym, ◌∙◌, arith, append-nil, nat_lt, ◌==◌}
use Rattle.sel_text.proofs.Common.{common_steps, digit_char, flat_map, list_all, nat_tests, and_first, and_second, escaped, hex_byte}
use Rattle.sel_text.proofs.Decoded.{no_quote, unquoted, read_one, one_then, read_escaped}
use Rattle.sel_text.proofs.Escapes.{each_escape}

-- ---- bytes that are parsed one by one

-- The bytes that remain, each written as a code that is not empty.
pub record IsLeft (code : ℕ → List ℕ) (test : ℕ → Bool) (all read rest more : List ℕ) : Type 0 where
  pub left : List ℕ
  pub whole : read ++ left ≡ all
  pub small : list_all test left ≡ true
  pub text : rest ≡ flat_map code left ++ (34 ∷ more)

pub all_left : (code : ℕ → List ℕ) (test : ℕ → Bool) (all rest more : List ℕ) → list_all test all ≡ true → rest ≡ flat_map code all ++ (34 ∷ more) → IsLeft code test all [] rest more
all_left code test all rest more small is = record { left = all; whole = refl; small = small; text = is }

-- No code begins with a quote.
abbrev pub IsUnquoted : (ℕ → List ℕ) → Type 0
IsUnquoted code = (byte : ℕ) (rest more : List ℕ) → code byte ++ rest ≡ 34 ∷ more → ⊥

-- At a quote, all bytes were parsed.
pub none_left : (code : ℕ → List ℕ) (test : ℕ → Bool) (all read rest more end : List ℕ) → IsUnquoted code → IsLeft code test all read rest more → rest ≡ 34 ∷ end → (read ≡ all) × (end ≡ more)
none_left code test all read rest more end unquoted left closed = go left.left left.whole left.text
  where
    go : (bytes : List ℕ) → read ++ bytes ≡ all → rest ≡ flat_map code bytes ++ (34 ∷ more) → (read ≡ all) × (end ≡ more)
    go [] whole text = (sym (append-nil read) ∙ whole, ap (drop 1) (sym closed ∙ text))
    go (byte ∷ bytes) whole text = grind (arith, common_steps, unquoted, closed)

-- At any other byte, some byte remains.
pub record HasNext (code : ℕ → List ℕ) (test : ℕ → Bool) (all read rest more : List ℕ) : Type 0 where
  pub byte : ℕ
  pub others : List ℕ
  pub whole : read ++ (byte ∷ others) ≡ all
  pub fits : test byte ≡ true
  pub small : list_all test others ≡ true
  pub text : rest ≡ code byte ++ (flat_map code others ++ (34 ∷ more))

pub has_next : (code : ℕ → List ℕ) (test : ℕ → Bool) (all read rest more : List ℕ) → IsLeft code test all read rest more → ((end : List ℕ) → rest ≢ 34 ∷ end) → HasNext code test all read rest more
has_next code test all read rest more left other = go left.left left.whole left.small left.text
  where
    go : (bytes : List ℕ) → read ++ bytes ≡ all → list_all test bytes ≡ true → rest ≡ flat_map code bytes ++ (34 ∷ more) → HasNext code test all read rest more
    go [] whole small text = absurd (other more text)
    go (byte ∷ bytes) whole small text = grind (arith, common_steps, and_first, and_second)

-- One more byte was parsed.
pub one_read : (code : ℕ → List ℕ) (test : ℕ → Bool) (all read grown rest next more : List ℕ) (b : ℕ) → (has : HasNext code test all read rest more) → grown ≡ read ++ b ∷ [] →
    (b ≡ has.byte) × (next ≡ flat_map code has.others ++ (34 ∷ more)) → IsLeft code test all grown next more
one_read code test all read grown rest next more b has grows told = grind (arith, common_steps)

-- ---- bytes in hexadecimal

pub hex_unquoted : IsUnquoted hex_byte
hex_unquoted byte rest more is = let first : digit_char (byte / 16) ≡ 34 = ap (λ l. get_or l 0 0) is in no_quote (byte / 16) first

pub hex_digits : (v : ℕ) → v < 16 → (v < 10 → digit_char v ≡ 48 + v) × (10 ≤ v → digit_char v ≡ 87 + v)
hex_digits v small = (λ low. grind (arith, nat_tests), λ high. grind (arith, nat_tests))

-- ---- escapes

-- An escape parses to its byte only.
pub escape_told : (b n : ℕ) (text rest more : List ℕ) → read_one text ≡ one_then n rest → text ≡ escaped b ++ more → (n ≡ b) × (rest ≡ more)
escape_told b n text rest more read is = grind (arith, common_steps, read_escaped)

-- Two texts with different second bytes are different.
seconds_differ : (a b c d : ℕ) (x y : List ℕ) → a ∷ b ∷ x ≡ c ∷ d ∷ y → (b == d) ≡ false → ⊥
seconds_differ a b c d x y is differ = let same : b ≡ d = ap (λ l. get_or l 1 0) is in let apart : b ≢ d = grind (arith, nat_tests, differ) in apart same

-- The byte after `\u00` is less than a space and has no escape with a letter.
pub record IsControl (b : ℕ) (bytes more : List ℕ) : Type 0 where
  pub low : b < 32
  pub n8 : b ≢ 8
  pub n9 : b ≢ 9
  pub n10 : b ≢ 10
  pub n12 : b ≢ 12
  pub n13 : b ≢ 13
  pub text : bytes ≡ hex_byte b ++ more

pub control_told : (b : ℕ) (bytes more : List ℕ) → 92 ∷ 117 ∷ 48 ∷ 48 ∷ bytes ≡ escaped b ++ more → IsControl b bytes more
control_told b bytes more =
    each_escape (λ b word. 92 ∷ 117 ∷ 48 ∷ 48 ∷ bytes ≡ word ++ more → IsControl b bytes more)
    (λ is. absurd (seconds_differ _ _ _ _ _ _ is refl)) (λ is. absurd (seconds_differ _ _ _ _ _ _ is refl)) (λ is. absurd (seconds_differ _ _ _ _ _ _ is refl)) (λ is. absurd (seconds_differ _ _ _ _ _ _ is refl)) (λ is. absurd (seconds_differ _ _ _ _ _ _ is refl)) (λ is. absurd (seconds_differ _ _ _ _ _ _ is refl)) (λ is. absurd (seconds_differ _ _ _ _ _ _ is refl))
    (λ c low n8 n9 n10 n12 n13 is. record { low = low; n8 = n8; n9 = n9; n10 = n10; n12 = n12; n13 = n13; text = ap (drop 4) is })
    (λ c high quote n is. let first : 92 ≡ c = ap (λ l. get_or l 0 0) is in absurd (n (sym first))) b

pub below_256 : (b : ℕ) → nat_lt b 256 ≡ true → b < 256
below_256 b small = grind (arith, nat_tests, small)

pub no_test : (bytes : List ℕ) → list_all (λ byte. true) bytes ≡ true
no_test [] = refl
no_test (byte ∷ bytes) = no_test bytes
