-- Over a shelf that tells its files each state has one next state or one end.
use Rattle.std.proofs.Common.{◌≡◌, ℕ, ◌≤◌, ◌<◌, Bool, true, false, List, [], ◌∷◌, ◌++◌, length, refl, sym, ◌∙◌, ap, subst, append_assoc}
use Rattle.std.proofs.Common.{arith, nat_le, Option, Some, None, append-nil}
use Rattle.std.specs.FinMap.{get}
use Rattle.std.proofs.lemmas.Bool.Decides.{nat_tests}
use Rattle.uz_shelf.specs.Files.{FileMap}
use Rattle.avr_macro.specs.declared.errors.MacroWhy.TheVariants.{Unread, TooLong}
use Rattle.avr_macro.specs.Moves.{Move, goes, loads, refuses, included, move_of}
use Rattle.avr_macro.specs.States.{Level, State, around}
use Rattle.avr_macro.specs.Expansion.{BeginsWith, Does, End, Ends, ends_flat, ends_refused, ends_unread, ends_too_long, ends_loaded}
use Rattle.avr_macro.specs.Expansion.{Reaches, reaches_here, reaches_more, Step, step_goes, step_loads, flat_end, refused_end}

-- a state to go on with, or an end
data Next : Type 0 where
  going : List (List ℕ) → State → Next
  over : End → Next

-- once a file is there
abbrev by_included : List (List ℕ) → Level → Move → Next
by_included names level (goes t) = going names t
by_included names level (loads name) = over (refused_end names level.origin Unread)
by_included names level (refuses reason) = over (refused_end names level.origin reason)

abbrev by_length : Bool → List (List ℕ) → List (List ℕ) → List ℕ → Level → State → Next
by_length true names later bytes level s = by_included later level (included (length names) bytes level s)
by_length false names later bytes level s = over (refused_end later level.origin TooLong)

abbrev by_file : Option (List ℕ) → List (List ℕ) → List (List ℕ) → Level → State → Next
by_file None names later level s = over (refused_end later level.origin Unread)
by_file (Some bytes) names later level s = by_length (nat_le (length bytes) 1048576) names later bytes level s

abbrev by_move : FileMap → List (List ℕ) → Level → State → Move → Next
by_move m names level s (goes t) = going names t
by_move m names level s (refuses reason) = over (refused_end names level.origin reason)
by_move m names level s (loads name) = by_file (get m name) names (names ++ name ∷ []) level s

abbrev by_levels : FileMap → List (List ℕ) → State → List Level → Next
by_levels m names s [] = over (flat_end names s)
by_levels m names s (level ∷ outer) = by_move m names level (around outer s) (move_of level (around outer s))

abbrev next : FileMap → List (List ℕ) → State → Next
next m names s = by_levels m names s s.levels

-- what a state's innermost level does
does_next : (m : FileMap) (names : List (List ℕ)) (s : State) (level : Level) (outer : List Level) (move : Move) → Does s level outer move
    → next m names s ≡ by_move m names level (around outer s) move
does_next m names s level outer move d = ap (by_levels m names s) d.levels ∙ ap (by_move m names level (around outer s)) d.does

short_enough : (bytes : List ℕ) → length bytes ≤ 1048576 → nat_le (length bytes) 1048576 ≡ true
short_enough bytes h = grind (arith, nat_tests)

too_long : (bytes : List ℕ) → 1048576 < length bytes → nat_le (length bytes) 1048576 ≡ false
too_long bytes h = grind (arith, nat_tests)

-- a file that is there
holds_next : (m : FileMap) (names later : List (List ℕ)) (level : Level) (s : State) (name bytes : List ℕ) (move : Move) → get m name ≡ Some
    bytes → length bytes ≤ 1048576 → included (length names) bytes level s ≡ move
    → by_file (get m name) names later level s ≡ by_included later level move
holds_next m names later level s name bytes move e h i = cc (short_enough bytes h)

step_next : (m : FileMap) (names later : List (List ℕ)) (s t : State) → Step (Some m) names s later t → next m names s ≡ going later t
step_next m names _ s t (step_goes level outer d) = does_next m names s level outer (goes t) d
step_next m names _ s t (step_loads level outer name bytes d e h i) = does_next _ _ _ _ _ _ d ∙ holds_next _ _ _ _ _ _ _ _ e h i

ends_next : (m : FileMap) (names : List (List ℕ)) (s : State) (end : End) → Ends (Some m) names s end → next m names s ≡ over end
ends_next m names s _ (ends_flat e) = ap (by_levels m names s) e
ends_next m names s _ (ends_refused level outer reason d) = does_next m names s level outer (refuses reason) d
ends_next m names s _ (ends_unread level outer name d e) = cc (does_next m names s level outer (loads name) d)
ends_next m names s _ (ends_too_long level outer name d longer) =
    cc (does_next m names s level outer (loads name) d, longer.1, too_long longer.0 longer.2)
ends_next m names s _ (ends_loaded level outer name bytes reason d e h i) = does_next _ _ _ _ _ _ d ∙ holds_next _ _ _ _ _ _ _ _ e h i

-- the states from one on, in order
data Onward (m : FileMap) : List (List ℕ) → State → List (List ℕ) → State → Type 0 where
  stay : {names : List (List ℕ)} {s : State} → Onward m names s names s
  ahead : {names middle later : List (List ℕ)} {s t u : State} → next m names s ≡ going middle t → Onward m middle t later u
      → Onward m names s later u

one_more : (m : FileMap) (names middle later : List (List ℕ)) (s t u : State) → Onward m names s middle t → next m middle t ≡ going later u
    → Onward m names s later u
one_more m names _ later s _ u stay e = ahead e stay
one_more m names middle later s t u (ahead f rest) e = ahead f (one_more m _ middle later _ t u rest e)

onward : (m : FileMap) (names : List (List ℕ)) (s : State) (later : List (List ℕ)) (t : State) → Reaches (Some m) names s later t
    → Onward m names s later t
onward m names s _ _ reaches_here = stay
onward m names s later u (reaches_more {middle} {t = t} r step) = one_more m names middle later s t u (onward m names s middle t r)
    (step_next m middle later t u step)

-- a state on the way to an end goes on to it
meets : (m : FileMap) (names here there : List (List ℕ)) (s t u : State) (end : End) → Onward m names s here t → Onward m names s there u
    → next m there u ≡ over end → Onward m here t there u
meets m names _ there s _ u end stay way e = way
meets m names here _ s t _ end (ahead {middle = a} {t = x} f rest) stay e = let k : going a x ≡ over end = sym f ∙ e in absurd cc
meets m names here there s t u end (ahead {middle = a} {t = x} f rest) (ahead {middle = b} {t = y} g way) e =
    let same : going b y ≡ going a x = sym g ∙ f in
    let names_same : b ≡ a = cc in
    let state_same : y ≡ x = cc in
    meets m a here there x t u end rest (subst (λ n. Onward m n x there u) names_same (subst (λ z. Onward m b z there u) state_same way)) e

-- names are only added
Keeps : List (List ℕ) → Next → Type 0
Keeps names (going later t) = BeginsWith names later
Keeps names (over end) = BeginsWith names end.names

begins_all : (names : List (List ℕ)) → BeginsWith names names
begins_all names = ([], append-nil names)

begins_more : (a b c : List (List ℕ)) → BeginsWith a b → BeginsWith b c → BeginsWith a c
begins_more a b c (x, e) (y, f) = (x ++ y, sym (append_assoc a x y) ∙ ap (λ n. n ++ y) e ∙ f)

keeps_included : (later : List (List ℕ)) (level : Level) (move : Move) → Keeps later (by_included later level move)
unfolding Keeps
keeps_included later level (goes t) = begins_all later
keeps_included later level other = begins_all later

keeps_length : (b : Bool) (names later : List (List ℕ)) (bytes : List ℕ) (level : Level) (s : State)
    → Keeps later (by_length b names later bytes level s)
unfolding Keeps
keeps_length true names later bytes level s = keeps_included later level (included (length names) bytes level s)
keeps_length false names later bytes level s = begins_all later

keeps_file : (o : Option (List ℕ)) (names later : List (List ℕ)) (level : Level) (s : State) → Keeps later (by_file o names later level s)
unfolding Keeps
keeps_file None names later level s = begins_all later
keeps_file (Some bytes) names later level s = keeps_length (nat_le (length bytes) 1048576) names later bytes level s

keeps_fewer : (a b : List (List ℕ)) (n : Next) → BeginsWith a b → Keeps b n → Keeps a n
unfolding Keeps
keeps_fewer a b (going later t) h k = begins_more a b later h k
keeps_fewer a b (over end) h k = begins_more a b end.names h k

keeps_move : (m : FileMap) (names : List (List ℕ)) (level : Level) (s : State) (move : Move) → Keeps names (by_move m names level s move)
unfolding Keeps
keeps_move m names level s (loads name) = keeps_fewer _ _ _ (name ∷ [], refl) (keeps_file (get m name) names (names ++ name ∷ []) level s)
keeps_move m names level s other = begins_all names

keeps_levels : (m : FileMap) (names : List (List ℕ)) (s : State) (levels : List Level) → Keeps names (by_levels m names s levels)
unfolding Keeps
keeps_levels m names s [] = begins_all names
keeps_levels m names s (level ∷ outer) = keeps_move m names level (around outer s) (move_of level (around outer s))

grows : (m : FileMap) (names later : List (List ℕ)) (s t : State) → Onward m names s later t → BeginsWith names later
unfolding Keeps
grows m names _ s _ stay = begins_all names
grows m names later s u (ahead {middle} {t = t} e rest) =
    begins_more names middle later (subst (Keeps names) e (keeps_levels m names s s.levels)) (grows m middle later t u rest)

-- the names at a state are the first ones of those at the end
pub names_begin : (m : FileMap) (begun names there : List (List ℕ)) (first s u : State) (end : End)
    → Reaches (Some m) begun first names s → Reaches (Some m) begun first there u → Ends (Some m) there u end → BeginsWith names end.names
unfolding Keeps
names_begin m begun names there first s u end r way e =
    let last = ends_next _ _ _ _ e in
    begins_more _ _ _ (grows _ _ _ _ _ (meets _ _ _ _ _ _ _ _ (onward _ _ _ _ _ r) (onward _ _ _ _ _ way) last))
    (subst (Keeps there) last (keeps_levels m there u u.levels))

-- and where the next file is asked for, its name is among them too
asked_here : (m : FileMap) (names : List (List ℕ)) (s : State) (level : Level) (outer : List Level) (name : List ℕ) (n : Next)
    → Does s level outer (loads name) → next m names s ≡ n → Keeps (names ++ name ∷ []) n
asked_here m names s level outer name n d e =
    subst (Keeps (names ++ name ∷ [])) (sym (does_next _ _ _ _ _ _ d) ∙ e) (keeps_file (get m name) names _ level (around outer s))

asked_from : (m : FileMap) (names there : List (List ℕ)) (s u : State) (end : End) (level : Level) (outer : List Level) (name : List ℕ)
    → Does s level outer (loads name)
    → Onward m names s there u → next m there u ≡ over end → BeginsWith (names ++ name ∷ []) end.names
unfolding Keeps
asked_from m names _ s _ end level outer name d stay last = asked_here m names s level outer name (over end) d last
asked_from m names there s u end level outer name d (ahead {middle} {t = t} f rest) last =
    begins_more (names ++ name ∷ []) middle end.names (asked_here m names s level outer name (going middle t) d f)
    (begins_more middle there end.names (grows m middle there t u rest) (subst (Keeps there) last (keeps_levels m there u u.levels)))

pub asked_begins : (m : FileMap) (begun names there : List (List ℕ)) (first s u : State) (end : End) (level : Level) (outer : List Level)
    (name : List ℕ)
    → Reaches (Some m) begun first names s → Reaches (Some m) begun first there u → Ends (Some m) there u end → Does s level outer
    (loads name) → BeginsWith (names ++ name ∷ []) end.names
asked_begins m begun names there first s u end level outer name r way e d =
    let last = ends_next _ _ _ _ e in
    asked_from _ _ _ _ _ _ _ _ _ d (meets _ _ _ _ _ _ _ _ (onward _ _ _ _ _ r) (onward _ _ _ _ _ way) last) last

-- there is one end
same_end : (m : FileMap) (here there : List (List ℕ)) (s u : State) (x y : End) → Onward m here s there u → next m there u ≡ over y
    → next m here s ≡ over x → x ≡ y
same_end m here _ s _ x y stay last e = let k : over x ≡ over y = sym e ∙ last in cc
same_end m here there s u x y (ahead {middle = a} {t = t} f rest) last e = let k : going a t ≡ over x = sym f ∙ e in absurd cc

pub one_end : (m : FileMap) (begun here there : List (List ℕ)) (first s u : State) (x y : End)
    → Reaches (Some m) begun first here s → Ends (Some m) here s x → Reaches (Some m) begun first there u → Ends (Some m) there u y → x ≡ y
one_end m begun here there first s u x y r ex way ey =
    let last = ends_next _ _ _ _ ey in
    same_end _ _ _ _ _ _ _ (meets _ _ _ _ _ _ _ _ (onward _ _ _ _ _ r) (onward _ _ _ _ _ way) last) last (ends_next _ _ _ _ ex)
