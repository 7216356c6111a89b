-- When an instance lies in an instance of a point of the certificate.
use Rattle.std.specs.Prelude.{◌≡◌, ℕ, zero, suc, ◌-◌, Bool, true, false, ◌||◌, ◌&&◌, nat_eq, List, [], ◌∷◌, Option, Some, None, slice_get}
use Rattle.uz_schedule.specs.declared.states.Instance.{Instance}
use Rattle.uz_schedule.specs.declared.states.Point.{Point}
use Rattle.uz_schedule.specs.declared.certificate.Cert.{Cert}
use Rattle.uz_schedule.specs.Instances.{instance_at}
use Rattle.uz_rules.specs.Inside.{same_kind, inside}

abbrev pub lies_at : Option Instance → Instance → Bool
lies_at None inst = false
lies_at (Some point_instance) inst = inside inst point_instance

-- a test holds of one of the n numbers from k on
unfoldable pub any_from : (ℕ → Bool) → ℕ → ℕ → Bool
any_from test k zero = false
any_from test k (suc n) = test k || any_from test (suc k) n

-- at the instance's own line and one of the counts of the point's box
abbrev pub lies_in_box : Cert → ℕ → Option Point → Instance → Bool
lies_in_box cert id None inst = false
lies_in_box cert id (Some p) inst = any_from (λ c. lies_at (instance_at cert id inst.line c) inst) p.c0 (suc p.c1 - p.c0)

abbrev pub lies_in_point : Cert → ℕ → Instance → Bool
lies_in_point cert id inst = lies_in_box cert id (slice_get cert.points id) inst

-- the point has the instance's kind and pc
abbrev pub same_program_place : Point → Instance → Bool
same_program_place p inst = same_kind inst.kind p.kind && nat_eq inst.pc p.pc

-- and in one of these points
abbrev pub lies_in_any : Cert → List ℕ → Instance → Bool
lies_in_any cert [] inst = false
lies_in_any cert (id ∷ ids) inst = lies_in_point cert id inst || lies_in_any cert ids inst

-- an instance lies in an instance of this point
pub record LiesIn (cert : Cert) (id : ℕ) (inst : Instance) : Type 0 where
  pub count : ℕ
  pub point_instance : Instance
  pub is : instance_at cert id inst.line count ≡ Some point_instance
  pub inside : inside inst point_instance ≡ true

-- where the test holds there is such an instance
abbrev pub LiesInPoint : Type 0
LiesInPoint = (cert : Cert) (id : ℕ) (inst : Instance) → lies_in_point cert id inst ≡ true → LiesIn cert id inst
