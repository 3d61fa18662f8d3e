-- Characters of quoted strings.
use Rattle.std.proofs.Common.{◌≡◌, ◌≢◌, ℕ, ◌+◌, ◌/◌, ◌≤◌, ◌<◌, true, false, List, [], ◌∷◌, ◌++◌, refl, ap, sym, ◌∙◌, arith, append-nil, nat_lt, ◌==◌, codes, subst}
use Rattle.sel_text.proofs.Common.{common_steps, cond_both, flat_map, nat_tests, IsUtf8, chars, flat_map-append, encode_ascii, encodes-append, chars-encodes, escaped, quoted, hex_byte}
use lib.Utf8.{encode, encodes, next}

-- A byte that needs no escape.
pub escaped_plain : (b : ℕ) → b ≢ 34 → b ≢ 92 → 32 ≤ b → escaped b ≡ b ∷ []
escaped_plain b q s high = grind (arith, nat_tests)

escaped_high : (b : ℕ) → 128 ≤ b → escaped b ≡ b ∷ []
escaped_high b high = escaped_plain b (λ e. omega arith) (λ e. omega arith) (omega arith)

-- A property of each escape and of each byte without one.
module _ (P : ℕ → List ℕ → Type 0)
    (quote : P 34 (codes "\\\"")) (backslash : P 92 (codes "\\\\")) (line : P 10 (codes "\\n")) (return : P 13 (codes "\\r")) (tab : P 9 (codes "\\t")) (back : P 8 (codes "\\b")) (feed : P 12 (codes "\\f"))
    (control : (b : ℕ) → b < 32 → b ≢ 8 → b ≢ 9 → b ≢ 10 → b ≢ 12 → b ≢ 13 → P b (codes "\\u00" ++ hex_byte b))
    (plain : (b : ℕ) → 32 ≤ b → b ≢ 34 → b ≢ 92 → P b (b ∷ [])) where
  at_byte : (b n : ℕ) (word : List ℕ) → (b == n) ≡ true → P n word → P b word
  at_byte b n word is here = let same : n ≡ b = grind (arith, nat_tests, is) in subst (λ x. P x word) same here

  not_byte : (b n : ℕ) → (b == n) ≡ false → b ≢ n
  not_byte b n is = grind (arith, nat_tests, is)

  pub each_escape : (b : ℕ) → P b (escaped b)
  each_escape b =
      cond_both (b == 34) _ _ (P b) (λ is. at_byte b 34 _ is quote) (λ n34.
      cond_both (b == 92) _ _ (P b) (λ is. at_byte b 92 _ is backslash) (λ n92.
      cond_both (b == 10) _ _ (P b) (λ is. at_byte b 10 _ is line) (λ n10.
      cond_both (b == 13) _ _ (P b) (λ is. at_byte b 13 _ is return) (λ n13.
      cond_both (b == 9) _ _ (P b) (λ is. at_byte b 9 _ is tab) (λ n9.
      cond_both (b == 8) _ _ (P b) (λ is. at_byte b 8 _ is back) (λ n8.
      cond_both (b == 12) _ _ (P b) (λ is. at_byte b 12 _ is feed) (λ n12.
      cond_both (nat_lt b 32) _ _ (P b)
      (λ low. control b (grind (arith, nat_tests, low)) (not_byte b 8 n8) (not_byte b 9 n9) (not_byte b 10 n10) (not_byte b 12 n12) (not_byte b 13 n13))
      (λ high. plain b (grind (arith, nat_tests, high)) (not_byte b 34 n34) (not_byte b 92 n92)))))))))

-- A property of the bytes of each character from 128 on.
pub encoded : (P : List ℕ → Type 0) (c : ℕ) → 128 ≤ c → (c < 2048 → P ((192 + c / 64) ∷ next c ∷ [])) → (2048 ≤ c → c < 65536 → P ((224 + c / 4096) ∷ next (c / 64) ∷ next c ∷ [])) →
    (65536 ≤ c → P ((240 + c / 262144) ∷ next (c / 4096) ∷ next (c / 64) ∷ next c ∷ [])) → P (encode c)
unfolding encode
encoded P c high two three four = grind (arith, nat_tests, cond_both)

-- A character from 128 on needs no escape.
pub high_letter : (c : ℕ) → 128 ≤ c → flat_map escaped (encode c) ≡ encode c
high_letter c high =
    encoded (λ l. flat_map escaped l ≡ l) c high (λ two. rw (escaped_high (192 + c / 64) (omega arith), escaped_high (next c) (omega arith)) refl)
    (λ two three. rw (escaped_high (224 + c / 4096) (omega arith), escaped_high (next (c / 64)) (omega arith), escaped_high (next c) (omega arith)) refl)
    (λ four. rw (escaped_high (240 + c / 262144) (omega arith), escaped_high (next (c / 4096)) (omega arith), escaped_high (next (c / 64)) (omega arith), escaped_high (next c) (omega arith)) refl)

-- A character that needs no escape.
pub plain_letter : (c : ℕ) → c ≢ 34 → c ≢ 92 → 32 ≤ c → flat_map escaped (encode c) ≡ encode c
plain_letter c q s high = grind (arith, nat_tests, encode_ascii, escaped_plain, high_letter)

-- One more character.
pub letters_more : (entry old new ys : List ℕ) (c : ℕ) → old ≡ entry ++ (34 ∷ flat_map escaped (encodes ys)) → new ≡ old ++ flat_map escaped (encode c) →
    new ≡ entry ++ (34 ∷ flat_map escaped (encodes (ys ++ c ∷ [])))
letters_more entry old new ys c before now = grind (arith, common_steps, append-nil, encodes-append, flat_map-append)

-- The characters of a string, encoded.
pub letters_of : (bs : List ℕ) → IsUtf8 bs → encodes (chars bs) ≡ bs
letters_of bs u = ap (λ t. encodes (chars t)) (sym u.1.1) ∙ ap encodes (chars-encodes u.0 u.1.0) ∙ u.1.1

pub letters_end : (entry old new ys bytes : List ℕ) → old ≡ entry ++ (34 ∷ flat_map escaped (encodes ys)) → new ≡ old ++ 34 ∷ [] → ys ≡ chars bytes → IsUtf8 bytes → new ≡ entry ++ quoted bytes
letters_end entry old new ys bytes before now all u = grind (arith, common_steps, letters_of)
