-- What follows the first word of a text in UTF-8 is UTF-8.
use Rattle.std.proofs.Common.{◌≡◌, ℕ, List, true, drop, sym, subst}
use Rattle.std.proofs.lemmas.List.{length-take-le}
use Rattle.std.specs.List.{position_or_len}
use Rattle.std.specs.Str.{is_utf8}
use Rattle.journal_lines.specs.Blank.{is_blank, first_word}
use Rattle.journal_lines.proofs.Utf8Lemmas.{IsCut, position_cut, cut_utf8, trim_start_utf8, trim_end_utf8, blank_low}
use Rattle.journal_format.specs.DirectiveForm.{behind_word}

pub behind_word_utf8 : (text : List ℕ) → is_utf8 text ≡ true → is_utf8 (behind_word text) ≡ true
unfolding first_word
behind_word_utf8 text h =
    let n : ℕ = position_or_len is_blank text in
    let c : IsCut text n = position_cut is_blank blank_low text in
    trim_end_utf8 _ (trim_start_utf8 _
    (subst (λ (k : ℕ). is_utf8 (drop k text) ≡ true) (sym (length-take-le n text c.inside))
    (cut_utf8 text n h c).1))
