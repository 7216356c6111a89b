use Rattle.std.proofs.Common.{Global, List, ℕ, ◌∷◌, [], ◌++◌, ◌∙◌, refl, ap, subst, inl, arith, string_bytes}
use Rattle.std.specs.declared.string.String.{String}
use Rattle.std.proofs.lemmas.List.{length-map}
use Rattle.uz_shelf.specs.Faults.{Rose}
use Rattle.uz_shelf.specs.Files.{HoldsFile}
use Rattle.avr_macro.specs.Answers.{names_of}
use Rattle.avr_macro.specs.Steps.{seen_expander}
use Rattle.avr_macro.specs.Views.{seen_frame}
use Rattle.avr_macro.proofs.Runs.{file_read, file_refused, file_unloaded}
use Rattle.avr_macro.proofs.expansion.include.Goals as goal

pub returns-in-Ok-include-clause-came : goal.returns-in-Ok-include-clause-came
returns-in-Ok-include-clause-came g c =
    let names = names_of c.args.names.now in
    let files = g.H.Shelf.files c.args.shelf.now in
    let held =
    subst (λ (name : List ℕ). HoldsFile files name c.in-Ok-load.bytes.items) c.as_str-2.ensures.value c.in-Ok-load.ensures.held in
    file_read files names (names_of c.put_name.new.names) (string_bytes c.args.request.name) (seen_frame c.args.request.frame)
    (seen_expander c.args.expander.now) (seen_expander c.include.new.self) c.in-Ok.file c.in-Ok-load.bytes.items c.as_slice.result.now
    (c.in-Ok-put_name.ensures.ok ∙ ap (λ (name : List ℕ). names ++ name ∷ []) c.as_str.ensures.value)
    (omega (
      arith,
      c.in-Ok.ensures,
      c.len.ensures,
      c.args.names.now.ok.0,
      length-map c.args.names.now.items (λ (n : String Global). string_bytes n),
    ))
    c.as_slice.ensures.value held
    (omega (arith, c.in-Ok-load.ensures.limit, c.in-Ok-load.bytes.ok.0)) c.in-Ok-include.ensures.gives

pub returns-in-Ok-load-clause-came : goal.returns-in-Ok-load-clause-came
returns-in-Ok-load-clause-came g c =
    let names = names_of c.args.names.now in
    let files = g.H.Shelf.files c.args.shelf.now in
    let held =
    subst (λ (name : List ℕ). HoldsFile files name c.in-Ok-load.bytes.items) c.as_str-2.ensures.value c.in-Ok-load.ensures.held in
    file_refused files (Rose (g.H.Shelf.load_faults c.args.shelf.now) (g.H.Shelf.load_faults c.load.new.self)) names
    (names_of c.put_name.new.names) (string_bytes c.args.request.name) (seen_frame c.args.request.frame)
    (seen_expander c.args.expander.now) c.in-Err-include.why c.in-Ok.file c.in-Ok-load.bytes.items c.as_slice.result.now
    (c.in-Ok-put_name.ensures.ok ∙ ap (λ (name : List ℕ). names ++ name ∷ []) c.as_str.ensures.value)
    (omega (
      arith,
      c.in-Ok.ensures,
      c.len.ensures,
      c.args.names.now.ok.0,
      length-map c.args.names.now.items (λ (n : String Global). string_bytes n),
    ))
    c.as_slice.ensures.value held
    (omega (arith, c.in-Ok-load.ensures.limit, c.in-Ok-load.bytes.ok.0)) c.in-Err-include.ensures.gives

pub returns-in_default-clause-came : goal.returns-in_default-clause-came
returns-in_default-clause-came g c = inl (c.out_of_memory.ensures, inl refl)

pub returns-in_default-put_name-clause-came : goal.returns-in_default-put_name-clause-came
returns-in_default-put_name-clause-came g c =
    inl (c.out_of_memory-in_default-put_name.ensures, inl c.in_default-put_name.ensures.err)

pub returns-clause-came : goal.returns-clause-came
returns-clause-came g c =
    let names = names_of c.args.names.now in
    file_unloaded _ _ _ _ _ _ (seen_frame c.args.request.frame) (seen_expander c.args.expander.now) _ _ c.why_unloaded.ensures
    (c.in-Ok-put_name.ensures.ok ∙ ap (λ (name : List ℕ). names ++ name ∷ []) c.as_str.ensures.value)
    c.as_str-2.ensures.value c.in-Err.ensures.failed c.in-Err.ensures.too_long
