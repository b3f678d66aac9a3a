use Rattle.std.proofs.Common.{◌≡◌, ◌∷◌, ◌++◌, [], ap, ◌∙◌, List, ℕ}
use Rattle.journal_lines.specs.Printed.{indent, comment_line}
use Rattle.journal_format.specs.Mark.{bookid}
use Rattle.money_core.proofs.PrintedLemmas.{appended_twice}
use Rattle.journal_format.proofs.printing.push_mark.Goals as goal

pub returns-in_ok-push-in-Some-clause-ok : goal.returns-in_ok-push-in-Some-clause-ok
unfolding comment_line
returns-in_ok-push-in-Some-clause-ok c =
    let mark = c.in-Some.mark in
    let a = c.args.out.now.items in
    let text : c.extend_from_slice-in-Some.new.self.items ≡ c.extend_from_slice.new.self.items ++ mark =
    c.in_ok-extend_from_slice-in-Some-2.ensures.items ∙ ap (λ (xs : List ℕ). c.extend_from_slice.new.self.items ++ xs)
    (c.as_bytes.ensures.value ∙ c.as_str.ensures) in
    let line = appended_twice a c.extend_from_slice.new.self.items c.extend_from_slice-in-Some.new.self.items
    (indent ++ (59 ∷ 32 ∷ bookid)) mark
    c.in_ok-extend_from_slice-in-Some.ensures.items text in
    rw c.in-Some.is (appended_twice a c.extend_from_slice-in-Some.new.self.items c.push.new.self.items
    (indent ++ (59 ∷ 32 ∷ (bookid ++ mark))) (10 ∷ []) line c.in_ok-push-in-Some.ensures.items)
