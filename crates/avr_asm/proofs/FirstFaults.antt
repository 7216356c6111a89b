-- The first fault of a source is what the passes tell, and a source is assembled or has one.
use Rattle.std.proofs.Common.{◌≡◌, ℕ, ◌+◌, ◌⊎◌, List, [], ◌∷◌, ◌++◌, length, map, inl, inr, refl, sym, ◌∙◌, ap, subst, arith, nat_cmp}
use Rattle.std.specs.Prelude.{◌↔◌, Result, Ok, Err, IfErr}
use Rattle.std.specs.FinMap.{empty, from_entries}
use Rattle.std.specs.List.{IsDistinct}
use Rattle.avr_text.specs.declared.errors.AsmWhy.{AsmWhy}
use Rattle.avr_text.specs.declared.errors.AsmWhy.TheVariants as why
use Rattle.avr_asm.specs.declared.errors.AsmError.{AsmError}
use Rattle.avr_asm.specs.declared.output.Built.{Built}
use Rattle.avr_asm.specs.Assembly.{Output, seen_built, nothing, output_from, output_of, assembly}
use Rattle.avr_asm.specs.FirstFault.{IsLeast, Laid, place_after, AreLaid, Filled, bytes_by, InSecondPass, AreFilled, FirstPassFault}
use Rattle.avr_asm.specs.FirstFault.{SecondPassFault, IsFirstFault}
use Rattle.avr_asm.specs.Layout.{Layout, layout_of, GivesLayout}
use Rattle.avr_asm.specs.Lines.{lines_of}
use Rattle.avr_asm.specs.Relation.{IsAssembly}
use Rattle.avr_asm.proofs.EntryLists.{IsMadeOf}
use Rattle.avr_asm.proofs.ExactAssembly.{exact_assembly}
use Rattle.avr_asm.proofs.FirstPassRuns.{LaidOut, LayoutSays, lines_say, first_pass_fault, fault_laid, all_laid_out}
use Rattle.avr_asm.proofs.KeptEffects.{ValuesStay}
use Rattle.avr_asm.proofs.LineEnds.{WordsByName}
use Rattle.avr_asm.proofs.SecondPassFaults.{FaultFrom, OutputSays, outputs_say, fault_put}
use Rattle.avr_asm.proofs.Statements.{is_assembly}
use Rattle.std.proofs.lemmas.Bool.Decides.{nat_tests}

nothing_made : IsMadeOf {X = ℕ} {R = nat_cmp} empty []
unfolding IsDistinct
nothing_made = record { is = refl; once = tt }

-- what the second pass says of laid lines
second_pass_fault : (lines : List (List ℕ)) (layout : Layout) (e : AsmError) (l : LaidOut [] lines layout) → FaultFrom layout.symbols [] 1
    l.rest e → SecondPassFault lines e.line e.why
second_pass_fault lines layout e l f =
    let all = map (λ (g : Filled). g.laid) f.more ++ f.line ∷ f.after in
    let symbols : layout.symbols ≡ (place_after all).symbols = l.symbols ∙ ap (λ ls. (place_after ls).symbols) f.cut in
    record {
      before = f.more;
      line = f.line;
      after = f.after;
      cut = sym l.sources ∙ ap (λ ls. map (λ (x : Laid). x.source) ls) f.cut;
      numbered = omega (arith, f.numbered);
      laid = subst (λ ls. AreLaid [] ls []) f.cut l.laid;
      filled = subst (λ m. AreFilled m [] f.more (f.line ∷ f.after)) symbols f.filled;
      fault = subst (λ m. IsLeast (InSecondPass m (from_entries (bytes_by f.more)) f.line f.after) e.why) symbols f.fault;
    }

-- a source that isn't assembled has this first fault
faulty : (counts : WordsByName) (text : List ℕ) (e : AsmError) → assembly text ≡ Err e → IsFirstFault text e.line e.why
faulty counts text e is = go (layout_of (lines_of text)) (lines_say (lines_of text)) is
  where
    go : (r : Result Layout AsmError) → LayoutSays [] 1 (lines_of text) r → output_of (lines_of text) r ≡ Err e → IsFirstFault text e.line
        e.why
    go (Err f) says e' = let same : f ≡ e = cc in inl (subst (λ (x : AsmError). FirstPassFault (lines_of text) x.line x.why) same
        (first_pass_fault (lines_of text) f says))
    go (Ok layout) says e' =
        let out = outputs_say counts layout.symbols says.rest [] [] 1 nothing says.laid nothing_made in
        let lines : output_from 1 layout.symbols nothing (map (λ (x : Laid). x.source) says.rest) (map (λ (x : Laid). x.address) says.rest)
        ≡ Err e =
        ap (λ ls. output_from 1 layout.symbols nothing ls (map (λ (x : Laid). x.address) says.rest)) says.sources
        ∙ ap (output_from 1 layout.symbols nothing (lines_of text)) says.addresses ∙ e' in
        inr (second_pass_fault (lines_of text) layout e says (subst (OutputSays layout.symbols [] 1 says.rest) lines out))

-- and one that has a first fault isn't assembled
refused : (counts : WordsByName) (text : List ℕ) (n : ℕ) (w : AsmWhy) → IsFirstFault text n w → assembly text ≡ Err
    (record { line = n; why = w })
refused counts text n w (inl first) = ap (output_of (lines_of text)) (fault_laid (lines_of text) n w first)
refused counts text n w (inr second) =
    let all = map (λ (f : Filled). f.laid) second.before ++ second.line ∷ second.after in
    let symbols = (place_after all).symbols in
    let layout : layout_of (lines_of text) ≡ Ok (record { addresses = map (λ (x : Laid). x.address) all; symbols = symbols }) =
    ap layout_of second.cut ∙ all_laid_out _ second.laid in
    let count : 1 + length second.before ≡ n = omega (arith, second.numbered) in
    ap (output_of (lines_of text)) layout ∙ ap (λ ls. output_from 1 symbols nothing ls (map (λ (x : Laid). x.address) all)) second.cut
    ∙ fault_put counts _ _ _ _ _ _ _ second.laid second.filled nothing_made second.fault
    ∙ ap (λ m. Err (record { line = m; why = w })) count

pub fault_exact : (counts : WordsByName) (text : List ℕ) (e : AsmError) → (assembly text ≡ Err e) ↔ IsFirstFault text e.line e.why
fault_exact counts text e = (faulty counts text e, refused counts text e.line e.why)

pub assembly_exact : (stay : ValuesStay) (counts : WordsByName) (text : List ℕ) (out : Output) → (assembly text ≡ Ok out) ↔ IsAssembly text
    out
assembly_exact stay counts text out = (is_assembly stay counts text out, exact_assembly counts text out)

-- ---- one of the two

pub decided : (stay : ValuesStay) (counts : WordsByName) (text : List ℕ) → ((out : Output) × IsAssembly text out)
    ⊎ ((n : ℕ) × (w : AsmWhy) × IsFirstFault text n w)
decided stay counts text = go (assembly text) refl
  where
    go : (r : Result Output AsmError) → assembly text ≡ r → ((out : Output) × IsAssembly text out)
        ⊎ ((n : ℕ) × (w : AsmWhy) × IsFirstFault text n w)
    go (Ok out) e = inl (out, is_assembly stay counts text out e)
    go (Err fault) e = inr (fault.line, fault.why, faulty counts text fault e)

pub one_fault : (counts : WordsByName) (text : List ℕ) (n m : ℕ) (v w : AsmWhy) → IsFirstFault text n v → IsFirstFault text m w → (n ≡ m)
    × (v ≡ w)
one_fault counts text n m v w a b = grind (arith, nat_tests, refused counts text n v a, refused counts text m w b)

pub not_both : (counts : WordsByName) (text : List ℕ) (out : Output) (n : ℕ) (w : AsmWhy) → IsAssembly text out → IsFirstFault text n w → ⊥
not_both counts text out n w is fault =
    let e : ◌≡◌ {A = Result Output AsmError} (Ok out) (Err (record { line = n; why = w })) = sym (exact_assembly counts text out is)
    ∙ refused counts text n w fault in
    cc

-- ---- what a call gave

pub first_built : (counts : WordsByName) (text : List ℕ) (result : Result Built AsmError) → GivesLayout seen_built result (assembly text)
    → IfErr result (λ e. (e.why ≡ why.Memory) ⊎ IsFirstFault text e.line e.why)
first_built counts text (Ok b) e = tt
first_built counts text (Err fault) (inl memory) = inl memory
first_built counts text (Err fault) (inr e) = inr (faulty counts text fault e)

pub faulty_built : (counts : WordsByName) (text : List ℕ) (result : Result Built AsmError) → GivesLayout seen_built result (assembly text)
    → (n : ℕ) (w : AsmWhy) → IsFirstFault text n w
    → GivesLayout seen_built result (Err (record { line = n; why = w }))
faulty_built counts text result e n w fault = subst (GivesLayout seen_built result) (refused counts text n w fault) e
