use Rattle.std.proofs.Common.{sym, ◌∙◌}
use Rattle.std.specs.Str.{str_eq_ignore_ascii_case}
use Rattle.de_mnemonics.specs.Places.{is_word_in_list}
use Rattle.de_mnemonics.proofs.TableLemmas.{any-map}
use Rattle.de_mnemonics.proofs.words.is_word_in_list.Goals as goal

pub returns : goal.returns
unfolding is_word_in_list
returns c =
    c.is_word_in_table.ensures ∙ sym (any-map (λ entry. entry.now) (λ entry. str_eq_ignore_ascii_case c.args.word.now entry) c.args.table.now)
