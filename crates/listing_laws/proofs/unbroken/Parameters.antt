-- A listed code block declares no more parameters than its code block has (rule 52).
use Rattle.std.proofs.Common.{◌≡◌, ℕ, suc, ◌+◌, ◌≤◌, Bool, true, false, cond, not, List, [], ◌∷◌, ◌++◌, length, length-append, max, Some, refl, ap, arith}
use Rattle.std.specs.Prelude.{◌==◌, ◌&&◌, if◌then◌else◌, nat_eq, nat_lt}
use Rattle.std.specs.List.{AllByRecursion, count_by, find, sum_by}
use Rattle.std.specs.Option.{option_map}
use Rattle.std.proofs.lemmas.Bool.Decides.{nat_tests}
use Rattle.std.proofs.lemmas.List.Sums.{count_by-le-length, sum_by-append, sum_by-cons}
use Rattle.plc_base.specs.Kinds.{is_function, is_same_block}
use Rattle.plc_base.specs.declared.blocks.BlockId.{BlockId}
use Rattle.flat_code.specs.Programs.{CodeBlock}
use Rattle.flat_code.specs.declared.programs.Param.{Param}
use Rattle.stl_ast.specs.Blocks.{is_parameter, part_rank}
use Rattle.stl_ast.specs.declared.blocks.Part.{Part}
use Rattle.stl_ast.specs.declared.blocks.PartKind.{PartKind}
use Rattle.stl_ast.specs.declared.blocks.PartKind.TheVariants as part
use Rattle.stl_ast.specs.declared.declarations.Declaration.{Declaration}
use Rattle.block_layout.specs.Rule52.{parameters_in_section as counted_in, has_too_many_parameters, parameter_count, return_value_count}
use Rattle.stl_types.specs.declared.parameters.Formal.{Formal}
use Rattle.stl_list.specs.CodeBlocks.{listed_block, result_of}
use Rattle.stl_list.specs.JoinedParameters.{PassingChains}
use Rattle.stl_list.specs.Lines.{first_statement_line}
use Rattle.stl_list.specs.Parameters.{is_return}
use Rattle.stl_list.specs.Sections.{bytes_here, declared_here, declarations_of_section, plain_declaration, section_part, section_parts, static_bytes, static_name, temporary_name}
use Rattle.stl_list.specs.Signatures.{Signature, formals_from, formals_of_block, is_behind, signature, signatures_from}

-- ---- the formal parameters are those of the code block

formals_long : (c : PassingChains) (returns behind : Bool) (index first : ℕ) (ps : List Param) → length (formals_from c returns behind index first ps) ≡ length ps
formals_long c returns behind index first [] = refl
formals_long c returns behind index first (p ∷ ps) = ap suc (formals_long c returns (is_behind returns behind p) (suc index) (suc first) ps)

pub few_formals : (c : PassingChains) (first : ℕ) (bs : List CodeBlock) → AllByRecursion (λ b. length b.params ≤ 60) bs → (id : BlockId) → length (formals_of_block (signatures_from c first bs) id) ≤ 60
few_formals c first [] h id = omega arith
few_formals c first (b ∷ bs) h id = by (is_same_block b.id id) (few_formals c (first + length b.params) bs h.1 id)
  where
    by : (t : Bool) → length (formals_of_block (signatures_from c (first + length b.params) bs) id) ≤ 60
        → length (if t then (signature c first b).formals else formals_of_block (signatures_from c (first + length b.params) bs) id) ≤ 60
    by true more = let same = formals_long c (is_function b.id.kind) false 0 first b.params in let few = h.0 in omega (arith, same, few)
    by false more = more

-- ---- each is declared once

abbrev bit : Bool → ℕ
bit t = cond t 1 0

here_long : (line : ℕ) (kind : PartKind) (f : Formal) → length (declared_here line kind f) ≡ bit (nat_eq (part_rank f.section) (part_rank kind) && not (is_return f))
here_long line kind f = by (nat_eq (part_rank f.section) (part_rank kind) && not (is_return f))
  where
    by : (t : Bool) → length (if t then plain_declaration line f ∷ [] else []) ≡ cond t 1 0
    by true = refl
    by false = refl

once : (s : PartKind) (r : Bool)
    → bit (nat_eq (part_rank s) (part_rank part.Input) && not r) + bit (nat_eq (part_rank s) (part_rank part.Output) && not r) + bit (nat_eq (part_rank s) (part_rank part.InOut) && not r) + bit r ≤ 1
once part.Input true = omega arith
once part.Input false = omega arith
once part.Output true = omega arith
once part.Output false = omega arith
once part.InOut true = omega arith
once part.InOut false = omega arith
once part.Static true = omega arith
once part.Static false = omega arith
once part.Temp true = omega arith
once part.Temp false = omega arith

return_here : (f : Formal) (fs : List Formal) → return_value_count (result_of (f ∷ fs)) ≤ bit (is_return f) + return_value_count (result_of fs)
return_here f fs = by (is_return f)
  where
    by : (t : Bool) → return_value_count (option_map (λ (g : Formal). g.kind) (if t then Some f else find is_return fs)) ≤ cond t 1 0 + return_value_count (result_of fs)
    by true = omega arith
    by false = omega arith

all_declared : (line : ℕ) (fs : List Formal)
    → length (declarations_of_section line fs part.Input) + length (declarations_of_section line fs part.Output) + length (declarations_of_section line fs part.InOut) + return_value_count (result_of fs) ≤ length fs
all_declared line [] = omega arith
all_declared line (f ∷ fs) =
    let i = length-append (declared_here line part.Input f) (declarations_of_section line fs part.Input) in
    let q = length-append (declared_here line part.Output f) (declarations_of_section line fs part.Output) in
    let b = length-append (declared_here line part.InOut f) (declarations_of_section line fs part.InOut) in
    let one_i = here_long line part.Input f in
    let one_q = here_long line part.Output f in
    let one_b = here_long line part.InOut f in
    let one = once f.section (is_return f) in
    let return_ = return_here f fs in
    let more = all_declared line fs in omega (arith, i, q, b, one_i, one_q, one_b, one, return_, more)

-- ---- and counted once

section_counted : (line : ℕ) (kind : PartKind) (items : List Declaration) → sum_by counted_in (section_part line kind items) ≤ (if is_parameter kind then length items else 0)
section_counted line kind items = by (length items == 0)
  where
    one : (t : Bool) → (if t then count_by (λ (d : Declaration). nat_eq d.level 0) items else 0) ≤ (if t then length items else 0)
    one true = count_by-le-length (λ (d : Declaration). nat_eq d.level 0) items
    one false = omega arith

    by : (t : Bool) → sum_by counted_in (if t then [] else record { line = line; kind = kind; items = items } ∷ []) ≤ (if is_parameter kind then length items else 0)
    by true = omega arith
    by false =
        let p : Part = record { line = line; kind = kind; items = items } in
        let all = sum_by-cons counted_in p [] in
        let here : counted_in p ≤ (if is_parameter kind then length items else 0) = one (is_parameter kind) in omega (arith, all, here)

five_counted : (a b c d e : List Part) → sum_by counted_in (a ++ b ++ c ++ d ++ e) ≡ sum_by counted_in a + sum_by counted_in b + sum_by counted_in c + sum_by counted_in d + sum_by counted_in e
five_counted a b c d e =
    let one = sum_by-append counted_in a b in
    let two = sum_by-append counted_in (a ++ b) c in
    let three = sum_by-append counted_in (a ++ b ++ c) d in
    let four = sum_by-append counted_in (a ++ b ++ c ++ d) e in omega (arith, one, two, three, four)

sections_counted : (line : ℕ) (fs : List Formal) (b : CodeBlock) → sum_by counted_in (section_parts line fs b) + return_value_count (result_of fs) ≤ length fs
unfolding section_parts
sections_counted line fs b =
    let i = declarations_of_section line fs part.Input in
    let q = declarations_of_section line fs part.Output in
    let both = declarations_of_section line fs part.InOut in
    let s = bytes_here line static_name (static_bytes b) [] in
    let t = bytes_here line temporary_name b.local_len [] in
    let all = five_counted (section_part line part.Input i) (section_part line part.Output q) (section_part line part.InOut both) (section_part line part.Static s) (section_part line part.Temp t) in
    let one : sum_by counted_in (section_part line part.Input i) ≤ length i = section_counted line part.Input i in
    let two : sum_by counted_in (section_part line part.Output q) ≤ length q = section_counted line part.Output q in
    let three : sum_by counted_in (section_part line part.InOut both) ≤ length both = section_counted line part.InOut both in
    let four : sum_by counted_in (section_part line part.Static s) ≤ 0 = section_counted line part.Static s in
    let five : sum_by counted_in (section_part line part.Temp t) ≤ 0 = section_counted line part.Temp t in
    let few = all_declared line fs in omega (arith, all, one, two, three, four, five, few)

not_above : (n : ℕ) → n ≤ 60 → nat_lt 60 n ≡ false
not_above n h = grind (arith, nat_tests)

pub few_parameters : (ss : List Signature) (reached : ℕ) (b : CodeBlock) → length (formals_of_block ss b.id) ≤ 60 → has_too_many_parameters (listed_block ss reached b) ≡ false
few_parameters ss reached b few =
    let line = max reached (first_statement_line b) in
    let all = sections_counted line (formals_of_block ss b.id) b in
    not_above (parameter_count (listed_block ss reached b)) (omega (arith, all, few))
