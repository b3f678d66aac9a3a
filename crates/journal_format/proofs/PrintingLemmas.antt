-- The parts of a canonical text, appended one after another.
use Rattle.std.proofs.Common.{◌≡◌, ◌++◌, ℕ, List, [], ◌∷◌, true, ◌&&◌, Option, Some, None, length, take, map, refl, ap}
use Rattle.std.proofs.Common.{◌∙◌, sym, append-nil, append_assoc}
use Rattle.std.specs.Prelude.{Result, Ok, Err, OnOk, OnErr}
use Rattle.std.specs.List.{flat_map}
use Rattle.std.specs.Str.{is_utf8}
use Rattle.std.proofs.lemmas.Bool.{and_parts}
use Rattle.std.proofs.lemmas.Grind.{flat_map-append}
use Rattle.money_core.specs.declared.style.Style.{Style}
use Rattle.money_core.proofs.PrintedLemmas.{appended_twice}
use Rattle.money_core.proofs.Appends.{kept_behind}
use Rattle.journal_lines.specs.AccountName.{is_account}
use Rattle.journal_lines.specs.Printed.{ended, comment_line}
use Rattle.journal_lines.proofs.LineLemmas.{ended-append}
use Rattle.journal_format.specs.declared.posting.Posting.{Posting}
use Rattle.journal_format.specs.declared.txn.Txn.{Txn}
use Rattle.journal_format.specs.CanonicalText.{posting_line, posting_lines, mark_lines, txn_lines, txn_text, body_text}
use Rattle.journal_format.specs.Printable.{is_value, is_posting}
use Rattle.journal_format.specs.PrintedParts.{whole_line, header_part, mark_part, comment_part, comments_part}
use Rattle.journal_format.specs.PrintedParts.{posting_part, postings_part, comments_and_postings_part}

-- a step that fails after one that did not leaves the front
pub err_behind : {T E : Type 0} (r : Result T E) (a b d x : List ℕ) → b ≡ a ++ x → OnErr r (take (length b) d ≡ b)
    → OnErr r (take (length a) d ≡ a)
err_behind (Ok y) a b d x e h = tt
err_behind (Err y) a b d x e h = kept_behind a b d x e h

-- a last step
pub ok_behind : {T E : Type 0} (r : Result T E) (a b d x y z : List ℕ) → b ≡ a ++ x → x ++ y ≡ z → OnOk r (d ≡ b ++ y)
    → OnOk r (d ≡ a ++ z)
ok_behind (Ok v) a b d x y z e g h = appended_twice a b d x y e h ∙ ap (λ (xs : List ℕ). a ++ xs) g
ok_behind (Err v) a b d x y z e g h = tt

-- one part more of a list
pub part_next : {X : Type 0} (f : X → List ℕ) (a b c : List ℕ) (xs ys : List X) (x : X) → b ≡ a ++ flat_map f xs
    → c ≡ b ++ f x → ys ≡ xs ++ x ∷ [] → c ≡ a ++ flat_map f ys
part_next f a b c xs ys x e g h =
    rw (g, e, h, flat_map-append f xs (x ∷ []), append-nil (f x)) (append_assoc a (flat_map f xs) (f x))

-- the value of a posting
pub posting_value : (styles : List Style) (p : Posting) → is_posting styles p ≡ true
    → is_value styles p.amount p.price p.claim ≡ true
posting_value styles p h =
    (and_parts (is_account p.account && is_utf8 p.account) _
    (and_parts (is_account p.account && is_utf8 p.account && is_value styles p.amount p.price p.claim) _ h).0).1

-- the lines of comments
pub comments_parts : (texts : List (List ℕ)) → ended (map comment_line texts) ≡ comments_part texts
comments_parts [] = refl
comments_parts (text ∷ texts) = ap (λ (xs : List ℕ). comment_part text ++ xs) (comments_parts texts)

-- the lines of postings
pub postings_parts : (styles : List Style) (ps : List Posting)
    → ended (flat_map (posting_lines styles) ps) ≡ postings_part styles ps
postings_parts styles [] = refl
postings_parts styles (p ∷ ps) =
    ended-append (posting_lines styles p) (flat_map (posting_lines styles) ps)
    ∙ (ap (λ (xs : List ℕ). xs ++ ended (flat_map (posting_lines styles) ps))
    (ap (λ (xs : List ℕ). whole_line (posting_line styles p) ++ xs) (comments_parts p.comments))
    ∙ ap (λ (xs : List ℕ). posting_part styles p ++ xs) (postings_parts styles ps))

-- the lines below header and mark
rest_parts : (styles : List Style) (t : Txn)
    → ended (map comment_line t.comments ++ flat_map (posting_lines styles) t.postings) ≡ comments_and_postings_part
    styles t
rest_parts styles t =
    ended-append (map comment_line t.comments) (flat_map (posting_lines styles) t.postings)
    ∙ (ap (λ (xs : List ℕ). xs ++ ended (flat_map (posting_lines styles) t.postings)) (comments_parts t.comments)
    ∙ ap (λ (xs : List ℕ). comments_part t.comments ++ xs) (postings_parts styles t.postings))

-- the line of a mark
mark_parts : (mark : Option (List ℕ)) → ended (mark_lines mark) ≡ mark_part mark
mark_parts None = refl
mark_parts (Some mark) = append-nil _

-- a body by its parts
pub body_parts : (styles : List Style) (t : Txn) → header_part t
    ++ comments_and_postings_part styles t ≡ body_text styles t
unfolding txn_lines
body_parts styles t = ap (λ (xs : List ℕ). header_part t ++ xs) (sym (rest_parts styles t))

-- a transaction's text by its parts
pub txn_parts : (styles : List Style) (t : Txn)
    → header_part t ++ (mark_part t.mark ++ comments_and_postings_part styles t) ≡ txn_text styles t
unfolding txn_lines
txn_parts styles t =
    let rest = map comment_line t.comments ++ flat_map (posting_lines styles) t.postings in
    ap (λ (xs : List ℕ). header_part t ++ xs) (sym (ended-append (mark_lines t.mark) rest
    ∙ (ap (λ (xs : List ℕ). xs ++ ended rest) (mark_parts t.mark) ∙ ap (λ (xs : List ℕ). mark_part t.mark ++ xs)
    (rest_parts styles t))))
