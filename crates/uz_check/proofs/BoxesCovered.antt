-- A result that lies in a point's instance: the state meets that instance too.
use Rattle.uz_check.proofs.Common.{inl, and_parts, ◌≡◌, ◌⊎◌, inr, ℕ, true, sym, ◌∙◌, subst, Kind, Main, Handler, Alone, Instance, Cert}
use Rattle.uz_check.proofs.Common.{Core, IsCore, PadHistory, State, sync_level, IsState, same_place, inside, StateInside, same_place_tells}
use Rattle.uz_check.proofs.Common.{LevelMeets, Meets, Stands}
use Rattle.uz_rules.specs.Inside.{SamePlace}
use Rattle.uz_check.proofs.Premises.{IsCovered}

-- one instance lies in another only at the same place
pub place_tells : (a b : Instance) → inside a b ≡ true → SamePlace a b
place_tells a b e = same_place_tells a b (and_parts (same_place a b) _ e).0

-- the level is asked outside main
pub level_met : (kind : Kind) (level sync : ℕ) → ((kind ≡ Main) ⊎ (sync ≡ level)) → LevelMeets kind level sync
level_met Main level sync e = tt
level_met Handler level sync (inr e) = e
level_met Alone level sync (inr e) = e
level_met kind level sync (inl e) = absurd cc

pub lands : (laws : StateInside) (cert : Cert) (kind : Kind) (o : Core) (d : ℕ) (r : Instance) (s : State PadHistory) → IsState s → IsCore o
    → r.kind ≡ kind → Meets cert.head r o d s
    → (covered : IsCovered cert r) → ((kind ≡ Main) ⊎ (sync_level s.space ≡ covered.inst.level)) → Stands cert kind o d covered.inst s
lands laws cert kind o d r s is_state old of_kind meets covered level =
    let b = covered.inst in
    let place = place_tells r b covered.inside in
    let same : b.kind ≡ kind = sym place.kind ∙ of_kind in
    record {
      id = covered.id;
      l = covered.l;
      c = covered.c;
      is = covered.is;
      of_kind = same;
      old = old;
      meets = laws cert.head r b o d s is_state covered.inside (subst (λ k. LevelMeets k b.level (sync_level s.space)) (sym same)
          (level_met kind b.level (sync_level s.space) level)) meets;
    }
