use Rattle.stl_lexer.specs.Pieces.{tokens_of}
use Rattle.stl_print.specs.Trees.{pieces_of_tree, printed_text}
use Rattle.print_laws.proofs.printed_sources.law_of_printed_source.Goals as goal

pub returns : goal.returns
returns c t h =
    let text = c.law_of_printed_tokens.ensures.tokens t h.tokens in
    (tokens_of 0 1 (pieces_of_tree t), text.0, c.law_of_printed_tree.ensures (printed_text t) t h.forms text.1)
