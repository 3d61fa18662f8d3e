-- Every beginning of a text can be completed to one that can be read.
use Rattle.std.proofs.Common.{◌≡◌, ◌<◌, ℕ, true, false, List, [], ◌∷◌, ◌++◌, length, take, drop, get_or, refl, ap, sym, ◌∙◌, append_assoc, append-nil, arith, codes, Some, zero, None, Option, suc, take-append-drop, take_all, ◌+◌, add-one, subst}
use Rattle.std.proofs.Math.Seq.{take-suc}
use Rattle.sel_text.proofs.Common.{after_byte, changed, closing, goes_on, innermost, is_end, is_some_and, IsFirstError, Bracket, Square, Change, Next, B, Text, N}
use Rattle.sel_text.specs.declared.notation.Next.TheVariants.{FirstValue, FirstName, After, Digit, Word, TypeWord, Quoted}

-- The closing brackets of open brackets.
closings : List Bracket → List ℕ
closings [] = []
closings (bracket ∷ brackets) = closing bracket ∷ closings brackets

closed : (brackets : List Bracket) → goes_on After brackets (closings brackets) ≡ true
unfolding closings
closed [] = refl
closed (Square ∷ brackets) = closed brackets
closed (bracket ∷ brackets) = closed brackets

-- What follows can be read to the end.
abbrev pub Completes : Next → List Bracket → Type 0
Completes next brackets = (more : List ℕ) × (goes_on next brackets more ≡ true)

-- Bytes of which one leads on inside of any token: those of words, names, strings, numbers and brackets.
tried : List ℕ
tried = codes "\",0[<2468\\abcdefilnorstuvwxy" ++ 128 ∷ 144 ∷ 160 ∷ []

-- The first of some bytes that a text may go on with, and what follows it.
first_right : Next → Option Bracket → List ℕ → Option (ℕ × (Next × Change))
first_right next top [] = None
first_right next top (byte ∷ bytes) =
    elim (after_byte next top byte) as (λ _. Option (ℕ × (Next × Change))) [ None ↦ first_right next top bytes | Some step ↦ Some (byte, step) ]

-- The bytes up to the end of a token, at most so many, and the closing brackets.
ending : ℕ → Next → List Bracket → List ℕ
unfolding closings
ending zero next brackets = []
ending (suc count) After brackets = closings brackets
ending (suc count) Digit brackets = 32 ∷ closings brackets
ending (suc count) next brackets =
    elim (first_right next (innermost brackets) tried) as (λ _. List ℕ) [ None ↦ [] | Some found ↦ found.0 ∷ ending count found.1.0 (changed found.1.1 brackets) ]

-- Whatever may come next can be completed.
pub completes : (next : Next) (brackets : List Bracket) → Completes next brackets
unfolding closings tried first_right ending
completes FirstValue [] = (ending 24 FirstValue [], closed [])
completes FirstValue (Square ∷ brackets) = (ending 24 FirstValue (Square ∷ brackets), closed brackets)
completes FirstValue (bracket ∷ brackets) = (ending 24 FirstValue (bracket ∷ brackets), closed brackets)
completes FirstName [] = (ending 24 FirstName [], closed [])
completes FirstName (Square ∷ brackets) = (ending 24 FirstName (Square ∷ brackets), closed brackets)
completes FirstName (bracket ∷ brackets) = (ending 24 FirstName (bracket ∷ brackets), closed brackets)
completes (Word N) brackets = (ending 24 (Word N) brackets, closed brackets)
completes (TypeWord B) brackets = (ending 24 (TypeWord B) brackets, closed brackets)
completes (Quoted Text) brackets = (ending 24 (Quoted Text) brackets, closed brackets)
completes next brackets = (ending 24 next brackets, closed brackets)

-- The bytes before position `i` lead to what may come next.
abbrev pub LeadsTo : Next → List ℕ → Next → List Bracket → ℕ → Type 0
LeadsTo start text next brackets i = (more : List ℕ) → goes_on start [] (take i text ++ more) ≡ goes_on next brackets more

-- A byte more.
split : (text more : List ℕ) (i : ℕ) → i < length text → take (suc i) text ++ more ≡ take i text ++ (get_or text i 0 ∷ more)
split text more i inside = ap (λ front. front ++ more) (take-suc text i 0 inside) ∙ append_assoc (take i text) (get_or text i 0 ∷ []) more

pub fails_at : (start : Next) (text : List ℕ) (next : Next) (brackets : List Bracket) (i byte : ℕ) → i < length text → byte ≡ get_or text i 0 →
    None ≡ after_byte next (innermost brackets) byte → LeadsTo start text next brackets i → IsFirstError (goes_on start []) text i
fails_at start text next brackets i byte inside first told so_far =
    let stops : after_byte next (innermost brackets) (get_or text i 0) ≡ None = rw (← first) (sym told) in
    let none : (more : List ℕ) → goes_on start [] (take (suc i) text ++ more) ≡ false =
    λ more. ap (goes_on start []) (split text more i inside) ∙ so_far (get_or text i 0 ∷ more) ∙ ap (is_some_and (λ (step : Next × Change). goes_on step.0 (changed step.1 brackets) more)) stops in
    record {
      place = omega arith;
      wrong = ap (goes_on start []) (sym (take-append-drop (suc i) text)) ∙ none (drop (suc i) text);
      begins = ((completes next brackets).0, so_far (completes next brackets).0 ∙ (completes next brackets).1);
      ends = λ _. none;
    }

pub leads_more : (start : Next) (text : List ℕ) (next after : Next) (change : Change) (brackets grown : List Bracket) (i byte : ℕ) → i < length text → byte ≡ get_or text i 0 →
    Some (after, change) ≡ after_byte next (innermost brackets) byte → grown ≡ changed change brackets → LeadsTo start text next brackets i → LeadsTo start text after grown (i + 1)
leads_more start text next after change brackets grown i byte inside first told grows so_far =
    let goes : after_byte next (innermost brackets) (get_or text i 0) ≡ Some (after, change) = rw (← first) (sym told) in
    subst (LeadsTo start text after grown) (sym (add-one i))
    (λ more. ap (goes_on start []) (split text more i inside) ∙ so_far (get_or text i 0 ∷ more) ∙ ap (is_some_and (λ (step : Next × Change). goes_on step.0 (changed step.1 brackets) more)) goes
    ∙ ap (λ inner. goes_on after inner more) (sym grows))

-- At the end of the text.
pub at_end : (start : Next) (text : List ℕ) (next : Next) (brackets : List Bracket) (i : ℕ) → i ≡ length text → LeadsTo start text next brackets i → goes_on start [] text ≡ is_end next brackets
at_end start text next brackets i whole so_far =
    let all : take i text ++ [] ≡ text = append-nil (take i text) ∙ take_all i text (omega (arith, whole)) in
    ap (goes_on start []) (sym all) ∙ so_far []

pub ends_early : (start : Next) (text : List ℕ) (next : Next) (brackets : List Bracket) (i at : ℕ) → i ≡ length text → at ≡ length text → is_end next brackets ≡ false → LeadsTo start text next brackets i → IsFirstError (goes_on start []) text at
ends_early start text next brackets i at whole is_at told so_far =
    rw is_at (record {
      place = omega arith;
      wrong = at_end start text next brackets i whole so_far ∙ told;
      begins = ((completes next brackets).0, rw (← whole) (so_far (completes next brackets).0 ∙ (completes next brackets).1));
      ends = λ past. absurd (omega arith);
    })
