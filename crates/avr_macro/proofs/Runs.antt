-- How a run goes on, and how it is cut short.
use Rattle.std.proofs.Common.{◌≡◌, ℕ, ◌≤◌, List, [], ◌∷◌, ◌++◌, Global, length, map, refl, sym, ◌∙◌, ap, subst, inl, inr, arith}
use Rattle.std.specs.Prelude.{◌⊎◌, Option, Some, None, Result, Ok, Err, IsErrOf, Vec, string_bytes}
use Rattle.std.specs.declared.string.String.{String}
use Rattle.std.proofs.lemmas.List.{map-append}
use Rattle.uz_shelf.specs.Faults.{Rose}
use Rattle.uz_shelf.specs.Files.{FileMap, HoldsFile, HoldsLonger, LacksFile}
use Rattle.uz_shelf.specs.declared.errors.LoadError.{LoadError}
use Rattle.uz_shelf.specs.declared.errors.LoadError.TheVariants as load
use Rattle.avr_macro.specs.declared.errors.MacroError.{MacroError}
use Rattle.avr_macro.specs.declared.errors.MacroWhy.{MacroWhy}
use Rattle.avr_macro.specs.declared.errors.MacroWhy.TheVariants.{Unread, Memory}
use Rattle.avr_macro.specs.declared.flat.Flat.{Flat}
use Rattle.avr_macro.specs.Moves.{Move, goes, loads, refuses, included, move_of}
use Rattle.avr_macro.specs.States.{Level, State, around, first_state}
use Rattle.avr_macro.specs.Expansion.{Does, Ends, ends_refused, ends_unread, ends_too_long, ends_loaded, Reaches, reaches_more, step_goes}
use Rattle.avr_macro.specs.Expansion.{step_loads, refused_end}
use Rattle.avr_macro.specs.Answers.{Begins, CutBy, EndsAtFile, FailsFirst, Includes, IsCut, IsCutOff, refused_seen, unloaded}
use Rattle.avr_macro.specs.declared.expander.Request.{Request}
use Rattle.avr_macro.specs.Steps.{AsksFor, GivesStep}

-- a name more
pub more_names : (old new : List (String Global)) (name : String Global) (bytes : List ℕ) → new ≡ old ++ name ∷ []
    → string_bytes name ≡ bytes → map (λ (n : String Global). string_bytes n) new ≡ map (λ (n : String Global). string_bytes n) old
    ++ bytes ∷ []
more_names old new name bytes e f = cc (map-append (λ (n : String Global). string_bytes n) old (name ∷ []))

-- a file that was loaded is included, or refused
pub file_read : (files : Option FileMap) (names later : List (List ℕ)) (name : List ℕ) (level : Level) (s after : State) (file : ℕ)
    (bytes read : List ℕ) → later ≡ names ++ name ∷ [] → file ≡ length names → read ≡ bytes → HoldsFile files name bytes
    → length bytes ≤ 1048576 → included file read level s ≡ goes after
    → (later ≡ names ++ name ∷ []) × ((bytes : List ℕ) × HoldsFile files name bytes × (length bytes ≤ 1048576)
    × (included (length names) bytes level s ≡ goes after))
file_read files names later name level s after file bytes read put count is held short e =
    (put, (bytes, held, short, sym (ap (λ n. included n read level s) count ∙ ap (λ b. included (length names) b level s) is) ∙ e))

pub file_refused : (files : Option FileMap) (load_fault : Type 0) (names later : List (List ℕ)) (name : List ℕ) (level : Level) (s : State)
    (reason : MacroWhy) (file : ℕ) (bytes read : List ℕ) → later ≡ names ++ name ∷ [] → file ≡ length names → read ≡ bytes
    → HoldsFile files name bytes → length bytes ≤ 1048576 → (reason ≡ Memory) ⊎ (included file read level s ≡ refuses reason)
    → ((reason ≡ Memory) × ((later ≡ names) ⊎ (later ≡ names ++ name ∷ []))) ⊎ ((later ≡ names ++ name ∷ [])
    × (level.origin ≡ level.origin) × EndsAtFile files load_fault names name level s (record { at = level.origin; why = reason }))
file_refused files load_fault names later name level s reason file bytes read put count is held short (inl m) = inl (m, inr put)
file_refused files load_fault names later name level s reason file bytes read put count is held short (inr e) =
    inr (
      put,
      refl,
      inr (inr (
        bytes,
        held,
        short,
        sym (ap (λ n. included n read level s) count ∙ ap (λ b. included (length names) b level s) is) ∙ e,
      )),
    )

-- a file that wasn't loaded
pub file_unloaded : (files : Option FileMap) (load_fault : Type 0) (names later : List (List ℕ)) (name called : List ℕ) (level : Level)
    (s : State) (error : LoadError) (reason : MacroWhy) → reason ≡ unloaded error → later ≡ names ++ name ∷ [] → called ≡ name
    → (IsErrOf {T = Vec ℕ Global} (Err error) load.Failed → load_fault ⊎ LacksFile files called)
    → (IsErrOf {T = Vec ℕ Global} (Err error) load.TooLong → HoldsLonger files called 1048576)
    → ((reason ≡ Memory) × ((later ≡ names) ⊎ (later ≡ names ++ name ∷ []))) ⊎ ((later ≡ names ++ name ∷ [])
    × (level.origin ≡ level.origin) × EndsAtFile files load_fault names name level s (record { at = level.origin; why = reason }))
file_unloaded files load_fault names later name called level s load.Failed reason is put same failed too_long =
    inr (put, refl, inl (is, subst (λ (n : List ℕ). load_fault ⊎ LacksFile files n) same (failed refl)))
file_unloaded files load_fault names later name called level s load.TooLong reason is put same failed too_long =
    inr (put, refl, inr (inl (is, subst (λ (n : List ℕ). HoldsLonger files n 1048576) same (too_long refl))))
file_unloaded files load_fault names later name called level s load.Memory reason is put same failed too_long = inl (is, inr put)

pub first_unloaded : (files : Option FileMap) (load_fault : Type 0) (name : List ℕ) (error : LoadError) (reason : MacroWhy)
    → reason ≡ unloaded error
    → (IsErrOf {T = Vec ℕ Global} (Err error) load.Failed → load_fault ⊎ LacksFile files name)
    → (IsErrOf {T = Vec ℕ Global} (Err error) load.TooLong → HoldsLonger files name 1048576)
    → FailsFirst files load_fault name (record { at = record { file = 0; line = 0 }; why = reason })
first_unloaded files load_fault name load.Failed reason is failed too_long = inr (refl, inl (is, failed refl))
first_unloaded files load_fault name load.TooLong reason is failed too_long = inr (refl, inr (is, too_long refl))
first_unloaded files load_fault name load.Memory reason is failed too_long = inl is

-- the bytes of a file that was loaded are few
pub few_bytes : (read bytes : List ℕ) (len : ℕ) → read ≡ bytes → len ≡ length bytes → len ≤ 1048576 → length read ≤ 1048576
few_bytes read bytes len is same few = omega (arith, ap length is, same, few)

-- counts that only rise
pub no_fewer : (a b c : ℕ) → a ≤ b → b ≤ c → a ≤ c
no_fewer a b c first second = omega (arith, first, second)

-- a line is expanded
pub goes_on : (files : Option FileMap) (begun names : List (List ℕ)) (first s t : State) (level : Level) (outer : List Level)
    → Reaches files begun first names s → s.levels ≡ level ∷ outer → move_of level (around outer s) ≡ goes t → Reaches files begun first
    names t
goes_on files begun names first s t level outer r e d = reaches_more r (step_goes level outer (record { levels = e; does = d }))

-- a file is included
pub loads_on : (files : Option FileMap) (load_fault : Type 0) (begun names later : List (List ℕ)) (first s t : State) (level : Level)
    (outer : List Level) (name : List ℕ)
    → Reaches files begun first names s → s.levels ≡ level ∷ outer → move_of level (around outer s) ≡ loads name
    → (later ≡ names ++ name ∷ []) → ((bytes : List ℕ) × HoldsFile files name bytes × (length bytes ≤ 1048576)
    × (included (length names) bytes level (around outer s) ≡ goes t)) → Reaches files begun first later t
loads_on files load_fault begun names later first s t level outer name r e d is (bytes, held, short, i) =
    subst (λ n. Reaches files begun first n t) (sym is)
    (reaches_more r (step_loads level outer name bytes (record { levels = e; does = d }) held short i))

-- a line is refused
pub cut_at_line : (files : Option FileMap) (load_fault : Type 0) (begun names : List (List ℕ)) (first s : State) (level : Level)
    (outer : List Level) (e : MacroError) (reason : MacroWhy)
    → Reaches files begun first names s → s.levels ≡ level ∷ outer → e.at ≡ level.origin → e.why ≡ reason → (reason ≡ Memory)
    ⊎ (move_of level (around outer s) ≡ refuses reason) → IsCut files load_fault begun first names e
cut_at_line files load_fault begun names first s level outer e reason r levels at is (inl m) = record {
  names = names;
  state = s;
  reached = r;
  asked = inl refl;
  cut = inl (is ∙ m);
}
cut_at_line files load_fault begun names first s level outer e reason r levels at is (inr d) =
    record {
      names = names;
      state = s;
      reached = r;
      asked = inl refl;
      cut = inr (inr (subst (λ o. Ends files names s (refused_end names o e.why)) (sym at)
          (ends_refused level outer e.why (record { levels = levels; does = d ∙ ap refuses (sym is) }))));
    }

-- a file ends the expansion
file_ends : (files : Option FileMap) (load_fault : Type 0) (names : List (List ℕ)) (s : State) (level : Level) (outer : List Level)
    (name : List ℕ) (e : MacroError) → Does s level outer (loads name)
    → EndsAtFile files load_fault names name level (around outer s) e → ((e.why ≡ Unread) × load_fault) ⊎ Ends files names s
    (refused_end (names ++ name ∷ []) level.origin e.why)
file_ends files load_fault names s level outer name e d (inl (why, inl fault)) = inl (why, fault)
file_ends files load_fault names s level outer name e d (inl (why, inr lacks)) =
    inr (subst (λ w. Ends files names s (refused_end (names ++ name ∷ []) level.origin w)) (sym why) (ends_unread level outer name d lacks))
file_ends files load_fault names s level outer name e d (inr (inl (why, longer))) =
    inr (subst (λ w. Ends files names s (refused_end (names ++ name ∷ []) level.origin w)) (sym why)
    (ends_too_long level outer name d longer))
file_ends files load_fault names s level outer name e d (inr (inr (bytes, held, short, i))) =
    inr (ends_loaded level outer name bytes e.why d held short i)

seen_there : (files : Option FileMap) (load_fault : Type 0) (names later : List (List ℕ)) (s : State) (level : Level) (name : List ℕ)
    (e : MacroError) → later ≡ names ++ name ∷ [] → e.at ≡ level.origin
    → ((e.why ≡ Unread) × load_fault) ⊎ Ends files names s (refused_end (names ++ name ∷ []) level.origin e.why)
    → ((e.why ≡ Unread) × load_fault) ⊎ Ends files names s (refused_seen later e)
seen_there files load_fault names later s level name e is at (inl f) = inl f
seen_there files load_fault names later s level name e is at (inr x) = inr (subst (λ n. Ends files names s (refused_end n e.at e.why))
    (sym is) (subst (λ o. Ends files names s (refused_end (names ++ name ∷ []) o e.why)) (sym at) x))

pub cut_at_file : (files : Option FileMap) (load_fault : Type 0) (begun names later : List (List ℕ)) (first s after : State) (level : Level)
    (outer : List Level) (name : List ℕ) (e : MacroError)
    → Reaches files begun first names s → s.levels ≡ level ∷ outer → move_of level (around outer s) ≡ loads name
    → Includes {X = ℕ} files load_fault names name level (around outer s) later after (Err e) → IsCut files load_fault begun first later e
cut_at_file files load_fault begun names later first s after level outer name e r levels d (inl (m, inl is)) =
    record { names = names; state = s; reached = r; asked = inl is; cut = inl m }
cut_at_file files load_fault begun names later first s after level outer name e r levels d (inl (m, inr is)) =
    record {
      names = names;
      state = s;
      reached = r;
      asked = inr (level, outer, name, record { levels = levels; does = d }, is);
      cut = inl m;
    }
cut_at_file files load_fault begun names later first s after level outer name e r levels d (inr (is, at, x)) =
    let does : Does s level outer (loads name) = record { levels = levels; does = d } in
    record {
      names = names;
      state = s;
      reached = r;
      asked = inr (level, outer, name, does, is);
      cut = inr (seen_there _ _ _ _ _ level _ _ is at (file_ends _ _ _ _ _ _ _ e does x));
    }

-- the same of equal files, levels and states
pub includes_same : {X : Type 0} (files other : Option FileMap) (load_fault : Type 0) (names : List (List ℕ)) (name : List ℕ)
    (level at : Level) (s t : State) (later : List (List ℕ)) (after : State) (result : Result X MacroError)
    → other ≡ files → at ≡ level → t ≡ s → Includes other load_fault names name at t later after result → Includes files load_fault names
    name level s later after result
includes_same files other load_fault names name level at s t later after result e f g h =
    subst (λ x. Includes x load_fault names name level s later after result) e
    (subst (λ x. Includes other load_fault names name x s later after result) f
    (subst (λ x. Includes other load_fault names name at x later after result) g h))

-- a fault of a later call is one of all calls
pub rose_before : (first old new : ℕ) → first ≤ old → Rose old new → Rose first new
rose_before first old new h (inl r) = inl (omega arith)
rose_before first old new h (inr r) = inr r

pub cut_before : (files : Option FileMap) (fault whole : Type 0) (begun later : List (List ℕ)) (first : State) (e : MacroError)
    → (fault → whole) → IsCut files fault begun first later e → IsCut files whole begun first later e
cut_before files fault whole begun later first e f c = record {
  names = c.names;
  state = c.state;
  reached = c.reached;
  asked = c.asked;
  cut = by_cause c.cut;
}
  where
    by_cause : CutBy files fault c.names c.state later e → CutBy files whole c.names c.state later e
    by_cause (inl m) = inl m
    by_cause (inr (inl (why, r))) = inr (inl (why, f r))
    by_cause (inr (inr x)) = inr (inr x)

-- what a step asked for
pub asked_none : (asked : Option Request) (before after : State) (level : Level) (move : Move) → asked ≡ None → GivesStep (Ok asked) before
    after level move → move ≡ goes after
asked_none asked before after level move e h = subst (λ a. GivesStep (Ok a) before after level move) e h

pub asked_for : (asked : Option Request) (request : Request) (before after : State) (level : Level) (move : Move) → asked ≡ Some request
    → GivesStep (Ok asked) before after level move → AsksFor request before after level move
asked_for asked request before after level move e h = subst (λ a. GivesStep (Ok a) before after level move) e h

-- ---- a whole expansion

-- all is expanded
pub all_expanded : (files other : Option FileMap) (name : List ℕ) (begun later : List (List ℕ)) (first s : State) (flat : Flat)
    → other ≡ files → begun ≡ name ∷ [] → Begins files name first → Reaches other begun first later s × (s.levels ≡ [])
    → flat.text.items ≡ s.text → flat.origins.items ≡ s.origins
    → (bytes : List ℕ) × (t : State) × HoldsFile files name bytes × (length bytes ≤ 1048576) × Reaches files (name ∷ []) (first_state bytes)
    later t × (t.levels ≡ []) × (flat.text.items ≡ t.text) × (flat.origins.items ≡ t.origins)
all_expanded files other name begun later first s flat e b (bytes, held, short, f) (r, done) text origins = (
  bytes,
  s,
  held,
  short,
  subst (λ x. Reaches x (name ∷ []) (first_state bytes) later s) e
      (subst (λ n. Reaches other n (first_state bytes) later s) b (subst (λ t. Reaches other begun t later s) f r)),
  done,
  text,
  origins,
)

-- it was cut short
pub cut_off : (files other : Option FileMap) (fault whole : Type 0) (name : List ℕ) (begun later : List (List ℕ)) (first : State)
    (e : MacroError) → other ≡ files → begun ≡ name ∷ [] → Begins files name first → (fault → whole)
    → IsCut other fault begun first later e → IsCutOff files whole name later e
cut_off files other fault whole name begun later first e same b (bytes, held, short, f) w c =
    inr (inr (
      bytes,
      held,
      short,
      cut_before _ _ _ _ _ _ _ w (subst (λ x. IsCut x fault (name ∷ []) (first_state bytes) later e) same
          (subst (λ n. IsCut other fault n (first_state bytes) later e) b (subst (λ t. IsCut other fault begun t later e) f c))),
    ))
