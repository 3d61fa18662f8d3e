-- Characters of strings in the notation of rows.
use Rattle.std.proofs.Common.{◌≡◌, ◌≤◌, ◌<◌, ℕ, ◌+◌, ◌/◌, Bool, true, List, [], ◌∷◌, ◌++◌, refl, ap, sym, ◌∙◌, append-nil, arith, Some, None, subst, inl, inr, ◌⊎◌, option_map, encode_utf8, if◌then◌else◌}
use Rattle.std.proofs.lemmas.Bool.{cases_lt}
use Rattle.sel_text.proofs.Common.{common_steps, digit_char, flat_map, nat_tests, flat_map-append, encode_ascii, and_first, and_second, goes_on, escaped, after_string_byte, escape_byte, is_between, is_hexadecimal, Bracket, Keep, Next, Quoted, Within, Text, Escape, ByteOne}
use lib.Utf8.{encodes, next, scalar, scalars, scalar_cases}
use Rattle.sel_text.proofs.Escapes.{each_escape, encoded, high_letter}
use Rattle.sel_text.proofs.TypeNotation.{step_to}

-- A byte of a string leads on.
pub inside : (within after : Within) (brackets : List Bracket) (byte : ℕ) (more : List ℕ) → after_string_byte within byte ≡ Some (Quoted after) →
    goes_on (Quoted within) brackets (byte ∷ more) ≡ goes_on (Quoted after) brackets more
inside within after brackets byte more told = step_to (Quoted within) (Quoted after) Keep brackets byte more (ap (option_map (λ next. (next, Keep))) told)

-- From one place in a string to another.
pub record Leads (before after : Within) (text : List ℕ) : Type 0 where
  pub led : (brackets : List Bracket) (more : List ℕ) → goes_on (Quoted before) brackets (text ++ more) ≡ goes_on (Quoted after) brackets more

pub leads_none : (within : Within) → Leads within within []
leads_none within = record { led = λ brackets more. refl }

pub leads_byte : (before middle after : Within) (byte : ℕ) (text : List ℕ) → after_string_byte before byte ≡ Some (Quoted middle) → Leads middle after text → Leads before after (byte ∷ text)
leads_byte before middle after byte text told later = record { led = λ brackets more. inside before middle brackets byte (text ++ more) told ∙ later.led brackets more }

hex_digit : (d : ℕ) → d < 16 → is_hexadecimal (digit_char d) ≡ true
hex_digit d small = grind (arith, nat_tests, small)

when_true : (right : Bool) (next : Next) → right ≡ true → (if right then Some next else None) ≡ Some next
when_true right next is = rw is refl

pub hex_step : (before after : Within) (digit : ℕ) → after_string_byte before digit ≡ (if is_hexadecimal digit then Some (Quoted after) else None) → is_hexadecimal digit ≡ true → after_string_byte before digit ≡ Some (Quoted after)
hex_step before after digit is hex = is ∙ when_true (is_hexadecimal digit) (Quoted after) hex

short : (letter : ℕ) → escape_byte letter ≡ Some (Quoted Text) → Leads Text Text (92 ∷ letter ∷ [])
short letter told = leads_byte Text Escape Text 92 (letter ∷ []) refl (leads_byte Escape Text Text letter [] told (leads_none Text))

ascii_leads : (b : ℕ) → b < 128 → Leads Text Text (escaped b)
ascii_leads =
    each_escape (λ b word. b < 128 → Leads Text Text word)
    (λ low. short 34 refl) (λ low. short 92 refl) (λ low. short 110 refl) (λ low. short 114 refl) (λ low. short 116 refl) (λ low. short 98 refl) (λ low. short 102 refl)
    (λ b control n8 n9 n10 n12 n13 low. grind (arith, common_steps, leads_byte, hex_step, hex_digit, leads_none)) (λ b high quote backslash low. leads_byte Text Text Text b [] (grind (arith, nat_tests, quote, backslash, high, low)) (leads_none Text))

-- ---- characters of several bytes

between_step : (before after : Within) (b low high : ℕ) → after_string_byte before b ≡ (if is_between b low high then Some (Quoted after) else None) → low ≤ b → b ≤ high → after_string_byte before b ≡ Some (Quoted after)
between_step before after b low high is least most = is ∙ when_true (is_between b low high) (Quoted after) (grind (arith, nat_tests, least, most))

last_leads : (b : ℕ) → 128 ≤ b → b ≤ 191 → Leads ByteOne Text (b ∷ [])
last_leads b least most = leads_byte ByteOne Text Text b [] (between_step ByteOne Text b 128 191 refl least most) (leads_none Text)

-- Three bytes, and four bytes, of one character.
three : (a b c : ℕ) → 224 ≤ a → a ≤ 239 → 128 ≤ b → b ≤ 191 → (a ≡ 224 → 160 ≤ b) → (a ≡ 237 → b ≤ 159) → 128 ≤ c → c ≤ 191 → Leads Text Text (a ∷ b ∷ c ∷ [])
three a b c low_a high_a low_b high_b e0 ed low_c high_c = record { led = λ brackets more. grind (arith, nat_tests) }

four : (a b c d : ℕ) → 240 ≤ a → a ≤ 244 → 128 ≤ b → b ≤ 191 → (a ≡ 240 → 144 ≤ b) → (a ≡ 244 → b ≤ 143) → 128 ≤ c → c ≤ 191 → 128 ≤ d → d ≤ 191 → Leads Text Text (a ∷ b ∷ c ∷ d ∷ [])
four a b c d low_a high_a low_b high_b f0 f4 low_c high_c low_d high_d = record { led = λ brackets more. grind (arith, nat_tests) }

two_lead : (c : ℕ) → 128 ≤ c → c < 2048 → Leads Text Text ((192 + c / 64) ∷ next c ∷ [])
two_lead c least most = grind (arith, nat_tests, leads_byte, last_leads)

no_surrogate : (c : ℕ) → (c < 55296) ⊎ ((57344 ≤ c) × (c < 1114112)) → 224 + c / 4096 ≡ 237 → next (c / 64) ≤ 159
no_surrogate c cases ed = grind (arith, common_steps)

three_lead : (c : ℕ) → 2048 ≤ c → c < 65536 → scalar c ≡ true → Leads Text Text ((224 + c / 4096) ∷ next (c / 64) ∷ next c ∷ [])
three_lead c least most is =
    three (224 + c / 4096) (next (c / 64)) (next c) (omega arith) (omega arith) (omega arith) (omega arith) (λ e0. omega (arith, e0, least)) (no_surrogate c (scalar_cases c is)) (omega arith) (omega arith)

bounded : (c : ℕ) → (c < 55296) ⊎ ((57344 ≤ c) × (c < 1114112)) → c < 1114112
bounded c fits = grind (arith, common_steps)

four_lead : (c : ℕ) → 65536 ≤ c → scalar c ≡ true → Leads Text Text ((240 + c / 262144) ∷ next (c / 4096) ∷ next (c / 64) ∷ next c ∷ [])
four_lead c least is =
    let below : c < 1114112 = bounded c (scalar_cases c is) in
    four (240 + c / 262144) (next (c / 4096)) (next (c / 64)) (next c) (omega arith) (omega (arith, below)) (omega arith) (omega arith) (λ f0. omega (arith, f0, least)) (λ f4. omega (arith, f4, below))
    (omega arith) (omega arith) (omega arith) (omega arith)

-- A character as it is printed.
pub letter_leads : (c : ℕ) → scalar c ≡ true → (brackets : List Bracket) (more : List ℕ) → goes_on (Quoted Text) brackets (flat_map escaped (encode_utf8 c) ++ more) ≡ goes_on (Quoted Text) brackets more
letter_leads c is brackets more =
    elim (cases_lt c 128) [
      | inl small ↦ ap (λ text. goes_on (Quoted Text) brackets (text ++ more)) (ap (flat_map escaped) (encode_ascii c small) ∙ append-nil (escaped c)) ∙ (ascii_leads c small).led brackets more
      | inr high ↦ ap (λ text. goes_on (Quoted Text) brackets (text ++ more)) (high_letter c high)
          ∙ (encoded (Leads Text Text) c high (two_lead c high) (λ two three. three_lead c two three is) (λ four. four_lead c four is)).led brackets more
    ]

-- The characters of a string.
pub letters_lead : (cs : List ℕ) → scalars cs ≡ true → (brackets : List Bracket) (more : List ℕ) → goes_on (Quoted Text) brackets (flat_map escaped (encodes cs) ++ more) ≡ goes_on (Quoted Text) brackets more
letters_lead [] all brackets more = refl
letters_lead (c ∷ cs) all brackets more = grind (arith, common_steps, flat_map-append, letter_leads, and_first, and_second, (letters_lead cs (and_second (scalar c) (scalars cs) all) brackets more))

-- ---- the first byte

-- A text has a first byte, which is no further byte of a character.
abbrev pub Starts : List ℕ → Type 0
Starts text = (first : ℕ) × (rest : List ℕ) × (text ≡ first ∷ rest) × ((first < 128) ⊎ (192 ≤ first))

backslash_starts : (rest : List ℕ) → Starts (92 ∷ rest)
backslash_starts rest = (92, rest, refl, inl (omega arith))

ascii_starts : (b : ℕ) → b < 128 → Starts (escaped b)
ascii_starts =
    each_escape (λ b word. b < 128 → Starts word)
    (λ low. backslash_starts _) (λ low. backslash_starts _) (λ low. backslash_starts _) (λ low. backslash_starts _) (λ low. backslash_starts _) (λ low. backslash_starts _) (λ low. backslash_starts _)
    (λ b control n8 n9 n10 n12 n13 low. backslash_starts _) (λ b high quote backslash low. (b, [], refl, inl low))

pub starts : (c : ℕ) → scalar c ≡ true → Starts (flat_map escaped (encode_utf8 c))
starts c is =
    elim (cases_lt c 128) [
      | inl small ↦ subst Starts (sym (ap (flat_map escaped) (encode_ascii c small) ∙ append-nil (escaped c))) (ascii_starts c small)
      | inr high ↦ subst Starts (sym (high_letter c high))
          (encoded Starts c high (λ two. (192 + c / 64, _, refl, inr (omega arith))) (λ two three. (224 + c / 4096, _, refl, inr (omega arith))) (λ four. (240 + c / 262144, _, refl, inr (omega arith))))
    ]
