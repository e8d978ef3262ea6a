use Rattle.std.proofs.Common.{ℕ, List, refl}
use Rattle.std.specs.Str.{str_eq_ignore_ascii_case}
use Rattle.de_mnemonics.specs.Words.{partner_in_table}
use Rattle.de_mnemonics.proofs.TableLemmas.{found_beside}
use Rattle.de_mnemonics.proofs.words.partner.Goals as goal

pub returns-in-German : goal.returns-in-German
unfolding partner_in_table
returns-in-German c =
    rw (c.in-German.is, c.german_of.ensures)
    (found_beside {P = List ℕ × List ℕ} (λ pair. (pair.0.now, pair.1.now)) (λ pair. str_eq_ignore_ascii_case c.args.word.now pair.0) (λ pair. pair.1) (λ pair. pair.1) (λ found. found.now) (λ pair. refl)
    c.args.table.now)

pub returns-in-English : goal.returns-in-English
unfolding partner_in_table
returns-in-English c =
    rw (c.in-English.is, c.english_of.ensures)
    (found_beside {P = List ℕ × List ℕ} (λ pair. (pair.0.now, pair.1.now)) (λ pair. str_eq_ignore_ascii_case c.args.word.now pair.1) (λ pair. pair.0) (λ pair. pair.0) (λ found. found.now) (λ pair. refl)
    c.args.table.now)
