-- A reply in JSON, if it is none of a report (own rule; docs/FORMATS.md, "Replies in JSON"): the line that answers, why
-- it is refused, and what is said beside it.
use Rattle.std.specs.Prelude.{◌≡◌, ℕ, true, List, [], ◌∷◌, ◌++◌, Option, Some, None, Result, Ok, Err, codes, decimal}
use Rattle.std.specs.Str.{is_utf8}
use Rattle.money_core.specs.declared.style.Style.{Style}
use Rattle.money_core.specs.declared.cause.Cause.{Cause}
use Rattle.money_core.specs.Cause.{cause_number, cause_name}
use Rattle.book_core.specs.declared.refusal.Refusal.{Refusal}
use Rattle.treasury_core.specs.declared.command.Answer.{Answer}
use Rattle.treasury_messages.specs.Sentence.{sentence_of}
use Rattle.json_text.specs.JsonText.{Held, string, strings, object_text, lines_of}
use Rattle.treasury_api.specs.Answer.{done_text, refusal_text}
use Rattle.treasury_api.specs.WebReply.{cause_of}

-- the line of an answer, without the line feed that ends it
abbrev pub json_line_text : List Style → Result Answer Refusal → List ℕ
json_line_text styles (Ok answer) = done_text answer
json_line_text styles (Err refusal) = refusal_text styles refusal

-- the number and the name of a refusal, and its sentence
abbrev pub cause_members : Cause → List (List ℕ × Held)
cause_members cause =
    (codes "number", string (decimal (cause_number cause))) ∷ (codes "name", string (cause_name cause))
    ∷ (codes "sentence", string (sentence_of cause)) ∷ []

-- those of a reply, where it is refused
abbrev pub refused_members : Result Answer Refusal → List (List ℕ × Held)
refused_members (Ok answer) = []
refused_members (Err refusal) = cause_members (cause_of refusal)

-- the member that says how many entries the branch of a dry run has, where that is said
abbrev pub entries_member : Option ℕ → List (List ℕ × Held)
entries_member None = []
entries_member (Some count) = (codes "entries", string (decimal count)) ∷ []

-- the members of the object of a reply: the line that answers, why it is refused, the lines of what is told of a
-- refusal and noted of another answer, and how many entries the branch has
abbrev pub reply_members : List Style → Result Answer Refusal → List ℕ → List ℕ → Option ℕ
    → List (List ℕ × Held)
reply_members styles reply told noted entries =
    (codes "answer", string (json_line_text styles reply)) ∷ refused_members reply
    ++ (codes "told", strings (lines_of told)) ∷ (codes "notes", strings (lines_of noted)) ∷ entries_member entries

-- the object, with a line feed after it
abbrev pub reply_json : List Style → Result Answer Refusal → List ℕ → List ℕ → Option ℕ → List ℕ
reply_json styles reply told noted entries =
    object_text (reply_members styles reply told noted entries) ++ codes "\n"

-- the body of a reply: of a refusal something is told, of another answer noted, some text or none, in UTF-8
abbrev pub IsJsonOf : Option ℕ → List Style → Result Answer Refusal → List ℕ → Type 0
IsJsonOf entries styles (Ok answer) body =
    (noted : List ℕ) × (is_utf8 noted ≡ true) × (body ≡ reply_json styles (Ok answer) [] noted entries)
IsJsonOf entries styles (Err refusal) body =
    (told : List ℕ) × (is_utf8 told ≡ true) × (body ≡ reply_json styles (Err refusal) told [] entries)

-- the object of an answer that is no refusal, by its line, what is noted, and the entries of its branch
abbrev pub done_json : List ℕ → List ℕ → Option ℕ → List ℕ
done_json line noted entries =
    object_text ((codes "answer", string line) ∷ (codes "told", strings (lines_of []))
    ∷ (codes "notes", strings (lines_of noted)) ∷ entries_member entries) ++ codes "\n"

-- that of a refusal, by its line, its number, its name, its sentence, what is told, and those entries
abbrev pub refusal_json : List ℕ → List ℕ → List ℕ → List ℕ → List ℕ → Option ℕ → List ℕ
refusal_json line nr name sentence told entries =
    object_text ((codes "answer", string line) ∷ (codes "number", string nr) ∷ (codes "name", string name)
    ∷ (codes "sentence", string sentence) ∷ (codes "told", strings (lines_of told))
    ∷ (codes "notes", strings (lines_of [])) ∷ entries_member entries) ++ codes "\n"

-- the same by its line, its cause, what is told, and those entries
abbrev pub refused_json : List ℕ → Cause → List ℕ → Option ℕ → List ℕ
refused_json line cause told entries =
    refusal_json line (decimal (cause_number cause)) (cause_name cause) (sentence_of cause) told entries
