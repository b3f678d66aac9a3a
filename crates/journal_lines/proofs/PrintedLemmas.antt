-- Printed lines read back wherever they stand, and what was appended in several steps.
use Rattle.std.proofs.Common.{◌≡◌, ◌≤◌, ◌++◌, ◌&&◌, ℕ, List, [], ◌∷◌, true, length, take, arith, refl, Option, Result}
use Rattle.std.proofs.Common.{Ok, Err, OnErr}
use Rattle.std.specs.List.{list_all}
use Rattle.std.proofs.lemmas.Bool.{and_parts, leb-true}
use Rattle.money_core.specs.declared.day.Day.{Day}
use Rattle.money_core.proofs.Appends.{kept_behind, kept_behind_two}
use Rattle.journal_lines.specs.declared.header.Status.{Status}
use Rattle.journal_lines.specs.Blank.{is_trimmed}
use Rattle.journal_lines.specs.Printed.{is_clean, line_limit, comment_line, is_comment, HeaderReadsBack, IsCommentText}
use Rattle.journal_lines.proofs.DateLemmas.{dates_print}
use Rattle.journal_lines.proofs.HeaderLemmas.{header_reads, header_clean, header_short, description_parts}
use Rattle.journal_lines.proofs.HeaderLemmas.{comment_reads}
use Rattle.journal_lines.proofs.HeaderFormLemmas.{reads_form}
use Rattle.journal_lines.proofs.KindLemmas.{header_kind, comment_kind, comment_remark}

-- a header line of good parts
pub headers_read_back : (day : Day) (status : Option Status) (code : Option (List ℕ)) (text : List ℕ)
    → HeaderReadsBack day status code text
headers_read_back day status code text h =
    let date = dates_print day h.number in
    let d = description_parts status code text h.description_ok in
    record {
      kind = header_kind day status code text date;
      reads = reads_form _ _ (header_reads day status code text h);
      clean = header_clean day status code text date h.code_ok d;
      short = header_short day status code text date h.code_ok d;
    }

comment_clean : (text : List ℕ) → list_all is_clean text ≡ true → list_all is_clean (comment_line text) ≡ true
unfolding comment_line
comment_clean [] k = refl
comment_clean (b ∷ bs) k = k

comment_short : (text : List ℕ) → length text ≤ 900 → length (comment_line text) ≤ line_limit
unfolding comment_line
comment_short [] k = omega arith
comment_short (b ∷ bs) k = omega (arith, k)

-- a comment line of a good text
pub comments_read_back : (text : List ℕ) → is_comment text ≡ true → IsCommentText text (comment_line text)
comments_read_back text h =
    let outer = and_parts (is_trimmed text && list_all is_clean text) _ h in
    let inner = and_parts (is_trimmed text) _ outer.0 in
    record {
      kind = comment_kind text;
      remark = comment_remark text;
      reads = comment_reads text h;
      clean = comment_clean text inner.1;
      short = comment_short text (leb-true (length text) 900 outer.1);
    }

-- a step that failed after three that did not leaves the front
pub kept_behind_three : {E : Type 0} (r : Result Unit E) (a b c d e x y z : List ℕ) → b ≡ a ++ x → c ≡ b ++ y
    → d ≡ c ++ z → OnErr r (take (length d) e ≡ d) → OnErr r (take (length a) e ≡ a)
kept_behind_three (Ok u) a b c d e x y z p q s h = tt
kept_behind_three (Err u) a b c d e x y z p q s h = kept_behind a b e x p (kept_behind_two b c d e y z q s h)
