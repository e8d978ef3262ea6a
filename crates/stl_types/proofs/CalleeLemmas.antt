-- The parameters of a block are those among its first cells, where these have all of them.
use Rattle.std.proofs.Common.{◌≡◌, ◌∙◌, sym, refl, ap, Bool, true, false, ◌&&◌, List, [], ◌∷◌, ◌++◌, Option, Some, None, if◌then◌else◌}
use Rattle.std.specs.List.{flat_map, list_all}
use Rattle.block_layout.specs.NameLists.{AreOthers, HaveParameters}
use Rattle.block_layout.specs.declared.cells.Cell.{Cell}
use Rattle.stl_types.specs.Parameters.{formal_here, formals_of, is_sound_formal, sound_formals}
use Rattle.stl_types.specs.declared.parameters.Formal.{Formal}

-- cells that are no parameters have none among them
none_of_others : (cells : List Cell) → AreOthers cells → formals_of cells ≡ []
none_of_others [] others = refl
none_of_others (c ∷ cs) others = rw others.0 (none_of_others cs others.1)

sound_others : (cells : List Cell) → AreOthers cells → list_all is_sound_formal cells ≡ true
sound_others [] others = refl
sound_others (c ∷ cs) others = rw others.0 (sound_others cs others.1)

formals_first : (first rest : List Cell) → AreOthers rest → formals_of (first ++ rest) ≡ formals_of first
formals_first [] rest others = none_of_others rest others
formals_first (c ∷ cs) rest others = ap (λ (l : List Formal). formal_here c ++ l) (formals_first cs rest others)

sound_first : (first rest : List Cell) → AreOthers rest →
    list_all is_sound_formal (first ++ rest) ≡ list_all is_sound_formal first
sound_first [] rest others = sound_others rest others
sound_first (c ∷ cs) rest others = ap (λ (b : Bool). is_sound_formal c && b) (sound_first cs rest others)

-- the parameters are among the first cells
pub of_first : (cells first : List Cell) → HaveParameters cells first → sound_formals first ≡ sound_formals cells
of_first cells first has =
    sym (ap (λ (l : List Cell). sound_formals l) has.whole
    ∙ ap (λ (b : Bool). if b then Some (formals_of (first ++ has.rest)) else None) (sound_first first has.rest has.others)
    ∙ ap (λ (l : List Formal). if list_all is_sound_formal first then Some l else None) (formals_first first has.rest has.others))
