-- What is told of a visit is told of the image, the certificate and the number that it was made of.
use Rattle.uz_check.proofs.Common.{◌≡◌, ℕ, ◌+◌, ◌≤◌, sym, subst, FinMap, nat_cmp, Some, slice_get, Cert, PointRefusal, Why, IsVisit}
use Rattle.uz_check.proofs.Common.{WellFormed}
use Rattle.std.proofs.Common.{Bor, List}
use Rattle.uz_check.specs.ImpliedLines.{RunsFrom, instances_to_check_of}
use Rattle.uz_rules.specs.declared.visit.Visit.{Visit}

pub point_there : (visit : Visit) (cert : Bor Cert) (id : ℕ) → visit.cert ≡ cert → visit.id ≡ id → IsVisit visit
    → slice_get cert.now.points id ≡ Some visit.point.now
point_there visit cert id same_cert same_id v =
    subst (λ n. slice_get cert.now.points n ≡ Some visit.point.now) same_id
    (subst (λ (k : Bor Cert). slice_get k.now.points visit.id ≡ Some visit.point.now) same_cert v.point)

pub refusal_there : (visit : Visit) (image : Bor (FinMap nat_cmp ℕ)) (cert : Bor Cert) (id : ℕ) (why : Why) → visit.image ≡ image
    → visit.cert ≡ cert → visit.id ≡ id → PointRefusal visit.image.now visit.cert.now visit.id visit.point.now why
    → PointRefusal image.now cert.now id visit.point.now why
refusal_there visit image cert id why same_image same_cert same_id told =
    subst (λ n. PointRefusal image.now cert.now n visit.point.now why) same_id
    (subst (λ (k : Bor Cert). PointRefusal image.now k.now visit.id visit.point.now why) same_cert
    (subst (λ (i : Bor (FinMap nat_cmp ℕ)). PointRefusal i.now visit.cert.now visit.id visit.point.now why) same_image told))

pub looked_there : (visit : Visit) (cert : Bor Cert) (seen looked : ℕ) → visit.cert ≡ cert
    → looked ≤ seen + instances_to_check_of visit.cert.now visit.point.now → looked ≤ seen + instances_to_check_of cert.now visit.point.now
looked_there visit cert seen looked same few =
    subst (λ (k : Bor Cert). looked ≤ seen + instances_to_check_of k.now visit.point.now) same few

pub well_formed_there : (visit : Visit) (cert : Bor Cert) → visit.cert ≡ cert → WellFormed cert.now → WellFormed visit.cert.now
well_formed_there visit cert same fits = subst (λ (k : Bor Cert). WellFormed k.now) (sym same) fits

pub runs_there : (visit : Visit) (cert : Bor Cert) (runs : List ℕ) (n : ℕ) → visit.cert ≡ cert → RunsFrom cert.now runs n
    → RunsFrom visit.cert.now runs n
runs_there visit cert runs n same noted = subst (λ (k : Bor Cert). RunsFrom k.now runs n) (sym same) noted
