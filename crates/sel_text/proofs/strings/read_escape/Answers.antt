-- Each escape with a letter parses to its byte.
use Rattle.std.proofs.Common.{ap, ◌∷◌}
use Rattle.sel_text.proofs.{Decoded.read_one, Quotes.escape_told}
use Rattle.sel_text.proofs.strings.read_escape.Goals as goal

pub returns-in-Some-clause-whole : goal.returns-in-Some-clause-whole
returns-in-Some-clause-whole c = λ byte more is. escape_told byte 34 _ c.in-Some.rest.now more (ap (λ l. read_one (92 ∷ l)) c.in-Some.ensures) is

pub returns-in-Some-behind-clause-whole : goal.returns-in-Some-behind-clause-whole
returns-in-Some-behind-clause-whole c = λ byte more is. escape_told byte 92 _ c.in-Some-behind.rest.now more (ap (λ l. read_one (92 ∷ l)) c.in-Some-behind.ensures) is

pub returns-in-Some-behind-2-clause-whole : goal.returns-in-Some-behind-2-clause-whole
returns-in-Some-behind-2-clause-whole c = λ byte more is. escape_told byte 10 _ c.in-Some-behind-2.rest.now more (ap (λ l. read_one (92 ∷ l)) c.in-Some-behind-2.ensures) is

pub returns-in-Some-behind-3-clause-whole : goal.returns-in-Some-behind-3-clause-whole
returns-in-Some-behind-3-clause-whole c = λ byte more is. escape_told byte 13 _ c.in-Some-behind-3.rest.now more (ap (λ l. read_one (92 ∷ l)) c.in-Some-behind-3.ensures) is

pub returns-in-Some-behind-4-clause-whole : goal.returns-in-Some-behind-4-clause-whole
returns-in-Some-behind-4-clause-whole c = λ byte more is. escape_told byte 9 _ c.in-Some-behind-4.rest.now more (ap (λ l. read_one (92 ∷ l)) c.in-Some-behind-4.ensures) is

pub returns-in-Some-behind-5-clause-whole : goal.returns-in-Some-behind-5-clause-whole
returns-in-Some-behind-5-clause-whole c = λ byte more is. escape_told byte 8 _ c.in-Some-behind-5.rest.now more (ap (λ l. read_one (92 ∷ l)) c.in-Some-behind-5.ensures) is

pub returns-in-Some-behind-6-clause-whole : goal.returns-in-Some-behind-6-clause-whole
returns-in-Some-behind-6-clause-whole c = λ byte more is. escape_told byte 12 _ c.in-Some-behind-6.rest.now more (ap (λ l. read_one (92 ∷ l)) c.in-Some-behind-6.ensures) is
