-- Over taken cells a source is refused at the first statement that places a byte on one.
use Rattle.std.proofs.Common.{◌≡◌, ℕ, zero, suc, ◌+◌, ◌<◌, Bool, true, false, cond, List, [], ◌∷◌, ◌++◌, length, map, nat_le, refl, sym}
use Rattle.std.proofs.Common.{◌∙◌, ap, subst, append_assoc, append-nil, arith, All, None, Some, Ok, Err, is_some, nat_cmp}
use Rattle.std.specs.List.{AllByRecursion}
use Rattle.std.proofs.lemmas.List.Elements.{recursion_from_All}
use Rattle.std.specs.FinMap.{find, get, insert, nat_cmp-IsAntisymmetric}
use Rattle.std.proofs.lemmas.Cmp.{nat_cmp_total}
use Rattle.avr_text.specs.Names.{NameMap}
use Rattle.avr_text.specs.declared.errors.AsmWhy.TheVariants as why
use Rattle.avr_text.specs.Faults.{OrFault, ◌>>=◌}
use Rattle.avr_text.specs.declared.tokens.Token.{Token}
use Rattle.avr_asm.specs.Assembly.{Output, following, with_line, at_line, output_from}
use Rattle.avr_asm.specs.Emission.{Flash, put}
use Rattle.avr_asm.specs.Hints.{mapped}
use Rattle.avr_asm.specs.LineOutputs.{LineOutput, tokens_output, line_output}
use Rattle.avr_asm.specs.Relation.{IsAssembly, IsStatement, Statement, bytes_from, bytes_of, hint_list, item_of}
use Rattle.avr_asm.specs.Taken.{Hits, Misses, assembly_over, over}
use Rattle.avr_asm.proofs.Decoding.{put_holds}
use Rattle.avr_asm.proofs.ExactAssembly.{Once, bytes_append, exact_layout, found_there, new_key, within_flash}
use Rattle.avr_asm.proofs.LineEnds.{WordsByName}
use Rattle.avr_asm.proofs.LinePuts.{with_output, line_put}
use Rattle.avr_asm.proofs.OutcomeLemmas.{ok_same}
use Rattle.avr_asm.proofs.SecondPassFaults.{PutSays, get_other, put_says}
use Rattle.avr_asm.proofs.Statements.{Chain, bytes_more, chain_from}
use Rattle.std.proofs.lemmas.Bool.Decides.{nat_tests}

-- Bytes and addresses

front_none : (q : ℕ) (xs ys : List (ℕ × ℕ)) → find nat_cmp q (xs ++ ys) ≡ None → find nat_cmp q xs ≡ None
front_none q [] ys e = refl
front_none q (x ∷ xs) ys e = grind (arith, nat_tests, front_none q xs ys)

back_none : (q : ℕ) (xs ys : List (ℕ × ℕ)) → find nat_cmp q (xs ++ ys) ≡ None → find nat_cmp q ys ≡ None
back_none q [] ys e = e
back_none q (x ∷ xs) ys e = grind (arith, nat_tests, back_none q xs ys)

-- bytes at addresses that stand once stand at none before them
place_new : (at : ℕ) (bytes : List ℕ) (es ys : List (ℕ × ℕ)) → Once ((es ++ bytes_from at bytes) ++ ys) → (i : ℕ) → i < length bytes
    → find nat_cmp (at + i) es ≡ None
place_new at [] es ys once i lt = absurd (omega arith)
place_new at (b ∷ bs) es ys once zero lt =
    let order : (es ++ (at, b) ∷ bytes_from (at + 1) bs) ++ ys ≡ es ++ (at, b) ∷ (bytes_from (at + 1) bs ++ ys) = append_assoc es
    ((at, b) ∷ bytes_from (at + 1) bs) ys in
    let z : at + 0 ≡ at = omega arith in
    ap (λ q. find nat_cmp q es) z ∙ new_key nat_cmp_total nat_cmp-IsAntisymmetric es (bytes_from (at + 1) bs ++ ys) at b
    (subst (λ xs. Once xs) order once)
place_new at (b ∷ bs) es ys once (suc i) lt =
    let regroup : (es ++ (at, b) ∷ []) ++ bytes_from (at + 1) bs ≡ es ++ bytes_from at (b ∷ bs) = append_assoc es ((at, b) ∷ [])
    (bytes_from (at + 1) bs) in
    let e : at + suc i ≡ at + 1 + i = omega arith in
    ap (λ q. find nat_cmp q es) e ∙ front_none (at + 1 + i) es ((at, b) ∷ [])
    (place_new (at + 1) bs (es ++ (at, b) ∷ []) ys (subst (λ xs. Once (xs ++ ys)) (sym regroup) once) i (omega arith))

-- bytes that are put change no other address
put_else : (at : ℕ) (bytes : List ℕ) (old new : Flash) (q : ℕ) → put at bytes old ≡ Ok new → find nat_cmp q (bytes_from at bytes) ≡ None
    → get new q ≡ get old q
put_else at [] old new q e none = ap (λ m. get m q) (sym (ok_same old new e))
put_else at (b ∷ bs) old new q e none =
    by_case (nat_le 65536 at) (is_some (get old at)) (λ f. put_else (at + 1) bs (insert old at b) new q f (back_none q ((at, b) ∷ [])
    (bytes_from (at + 1) bs) none)) e
  where
    other : ¬ (q ≡ at)
    other same =
        let here : find nat_cmp q ((at, b) ∷ []) ≡ None = front_none q ((at, b) ∷ []) (bytes_from (at + 1) bs) none in
        absurd (found_there nat_cmp_total nat_cmp-IsAntisymmetric ((at, b) ∷ []) q b 0 (omega arith) (ap (λ n. (n, b)) (sym same)) here)

    by_case : (past taken : Bool) → (put (at + 1) bs (insert old at b) ≡ Ok new → get new q ≡ get (insert old at b) q)
        → cond past (Err why.Past) (cond taken (Err why.Overlap) (put (at + 1) bs (insert old at b))) ≡ Ok new → get new q ≡ get old q
    by_case true taken rest f = absurd cc
    by_case false true rest f = absurd cc
    by_case false false rest f = rest f ∙ get_other old at b q other

-- What stands in the flash after some statements: the taken cells and their bytes, and nothing else
record Stands (taken : Flash) (front : List Statement) (image : Flash) : Type 0 where
  kept : (q byte : ℕ) → get taken q ≡ Some byte → get image q ≡ Some byte
  free : (q : ℕ) → get taken q ≡ None → find nat_cmp q (bytes_of front) ≡ None → get image q ≡ None

-- a statement is put by its output
put_is : (symbols : NameMap) (front : List Statement) (s : Statement) (after : List Statement) (k : ℕ) (out : Output)
    → IsStatement symbols front s after
    → with_line s.source symbols k s.address (following (map (λ t. t.source) after) (map (λ t. t.address) after)) out
    ≡ with_output k s.address out s.output
unfolding line_output
put_is symbols front s after k out is =
    let next = following (map (λ (t : Statement). t.source) after) (map (λ (t : Statement). t.address) after) in
    line_put s.source symbols k s.address next out
    ∙ ap (λ (o : OrFault (List Token)). (o >>= tokens_output s.source symbols s.address next) >>= with_output k s.address out) is.read
    ∙ ap (λ (o : OrFault LineOutput). o >>= with_output k s.address out) is.puts

-- a statement that misses them is put
record IsPut (symbols : NameMap) (taken : Flash) (front : List Statement) (s : Statement) (after : List Statement) (k : ℕ) (out : Output)
    : Type 0 where
  next : Output
  step : with_line s.source symbols k s.address (following (map (λ t. t.source) after) (map (λ t. t.address) after)) out ≡ Ok next
  stands : Stands taken (front ++ s ∷ []) next.image

module _ (counts : WordsByName) (symbols : NameMap) (taken : Flash) where
  miss_put : (front : List Statement) (s : Statement) (after : List Statement) (k : ℕ) (out : Output) (ys : List (ℕ × ℕ))
      → IsStatement symbols front s after → Once ((bytes_of front ++ bytes_from s.address s.output.bytes) ++ ys) → Misses taken s
      → Stands taken front out.image → IsPut symbols taken front s after k out
  miss_put front s after k out ys is once misses stands =
      by_case (put s.address s.output.bytes out.image) refl
      (put_says s.address s.output.bytes out.image (within_flash counts symbols front s after is))
    where
      by_case : (p : OrFault Flash) → put s.address s.output.bytes out.image ≡ p → PutSays s.address s.output.bytes out.image p
          → IsPut symbols taken front s after k out
      by_case (Err w) e (overlaps, i, lt, byte, held) =
          grind (arith, nat_tests, place_new s.address s.output.bytes (bytes_of front) ys once i lt)
      by_case (Ok image) e free = record {
        next = record {
          image = image;
          items = out.items ++ item_of k s.address s.output.instruction;
          hints = out.hints ++ hint_list s.output.hint;
        };
        step = put_is symbols front s after k out is ∙ ap (λ p. mapped p (λ image. record {
          image = image;
          items = out.items ++ item_of k s.address s.output.instruction;
          hints = out.hints ++ hint_list s.output.hint;
        })) e;
        stands = record {
          kept = λ q byte there. (put_holds s.address s.output.bytes out.image image e).0 q byte (stands.kept q byte there);
          free = λ q lacks none.
              let all : find nat_cmp q (bytes_of front ++ bytes_from s.address s.output.bytes) ≡ None =
              ap (find nat_cmp q) (bytes_more front s) ∙ none in
              put_else s.address s.output.bytes out.image image q e (back_none q (bytes_of front)
              (bytes_from s.address s.output.bytes) all)
              ∙ stands.free q lacks (front_none q (bytes_of front) (bytes_from s.address s.output.bytes) all);
        };
      }

  -- one that hits them is refused
  hit_refused : (front : List Statement) (s : Statement) (after : List Statement) (k : ℕ) (out : Output) → IsStatement symbols front s after
      → Hits taken s → Stands taken front out.image
      → with_line s.source symbols k s.address (following (map (λ t. t.source) after) (map (λ t. t.address) after)) out ≡ Err why.Overlap
  hit_refused front s after k out is (i, lt, byte, hit) stands =
      by_case (put s.address s.output.bytes out.image) refl
      (put_says _ _ _ (within_flash counts symbols front s after is))
    where
      by_case : (p : OrFault Flash) → put s.address s.output.bytes out.image ≡ p → PutSays s.address s.output.bytes out.image p
          → with_line s.source symbols k s.address (following (map (λ t. t.source) after) (map (λ t. t.address) after)) out
          ≡ Err why.Overlap
      by_case (Ok image) e free = absurd (cc (free i lt, stands.kept (s.address + i) byte hit))
      by_case (Err w) e (overlaps, i, lt, byte, held) = cc (put_is symbols front s after k out is)

  -- statements that miss them are put, and the others follow
  record ArePut (front mid rest : List Statement) (k : ℕ) (out : Output) : Type 0 where
    next : Output
    stands : Stands taken (front ++ mid) next.image
    goes : output_from k symbols out (map (λ s. s.source) (mid ++ rest)) (map (λ s. s.address) (mid ++ rest))
        ≡ output_from (k + length mid) symbols next (map (λ s. s.source) rest) (map (λ s. s.address) rest)

  all_put : (front mid rest : List Statement) (k : ℕ) (out : Output) → Chain symbols front (mid ++ rest)
      → Once (bytes_of (front ++ (mid ++ rest))) → AllByRecursion (Misses taken) mid → Stands taken front out.image → ArePut front mid rest k out
  unfolding output_from
  all_put front [] rest k out chain once miss stands = record {
    next = out;
    stands = subst (λ f. Stands taken f out.image) (sym (append-nil front)) stands;
    goes = let none : k ≡ k + 0 = omega arith in
        ap (λ n. output_from n symbols out (map (λ (s : Statement). s.source) rest) (map (λ (s : Statement). s.address) rest)) none;
  }
  all_put front (s ∷ ss) rest k out chain once miss stands =
      let regroup : (front ++ s ∷ []) ++ (ss ++ rest) ≡ front ++ (s ∷ ss ++ rest) = append_assoc front (s ∷ []) (ss ++ rest) in
      let bytes : bytes_of (front ++ (s ∷ ss ++ rest)) ≡ (bytes_of front ++ bytes_from s.address s.output.bytes) ++ bytes_of (ss ++ rest) =
      bytes_append front (s ∷ ss ++ rest)
      ∙ sym (append_assoc (bytes_of front) (bytes_from s.address s.output.bytes) (bytes_of (ss ++ rest))) in
      let first = miss_put _ _ _ _ _ (bytes_of (ss ++ rest)) chain.0 (subst (λ xs. Once xs) bytes once) miss.0 stands in
      let more = all_put (front ++ s ∷ []) ss rest (k + 1) first.next chain.1 (subst (λ ts. Once (bytes_of ts)) (sym regroup) once) miss.1
      first.stands in
      let count : k + 1 + length ss ≡ k + suc (length ss) = omega arith in
      record {
        next = more.next;
        stands = subst (λ f. Stands taken f more.next.image) (append_assoc front (s ∷ []) ss) more.stands;
        goes =
            ap (λ (o : OrFault Output). at_line k o (λ n. output_from (k + 1) symbols n (map (λ (t : Statement). t.source) (ss ++ rest))
            (map (λ (t : Statement). t.address) (ss ++ rest)))) first.step ∙ more.goes
            ∙ ap (λ n. output_from n symbols more.next (map (λ (s : Statement). s.source) rest) (map (λ (s : Statement). s.address) rest))
            count;
      }

nothing_stands : (taken : Flash) → Stands taken [] taken
nothing_stands taken = record { kept = λ q byte there. there; free = λ q lacks none. lacks }

module _ (counts : WordsByName) (text : List ℕ) (taken : Flash) (out : Output) (is : IsAssembly text out) where
  runs : assembly_over taken text
      ≡ output_from 1 is.symbols (over taken) (map (λ s. s.source) is.statements) (map (λ s. s.address) is.statements)
  runs = cc (exact_layout text out is, is.sources)

  parts : (mid rest : List Statement) → is.statements ≡ mid ++ rest → AllByRecursion (Misses taken) mid
      → ArePut counts is.symbols taken [] mid rest 1 (over taken)
  parts mid rest cut miss =
      all_put _ _ _ _ _ rest 1 (over taken) (subst (λ ss. Chain is.symbols [] ss) cut (chain_from _ _ _ is.meanings))
      (subst (λ ss. Once (bytes_of ss)) cut is.image.once) miss (nothing_stands _)

  pub first_hit : (before : List Statement) (s : Statement) (after : List Statement) → is.statements ≡ before ++ s ∷ after
      → All (Misses taken) before → Hits taken s
      → assembly_over taken text ≡ Err (record { line = s.number; why = why.Overlap })
  unfolding output_from
  first_hit before s after cut miss hit =
      let put = parts before (s ∷ after) cut (recursion_from_All (Misses taken) before miss) in
      let meaning = is.meanings before s after cut in
      let number : 1 + length before ≡ s.number = omega (arith, meaning.numbered) in
      cc (put.goes, hit_refused counts is.symbols taken before s after (1 + length before) put.next meaning hit put.stands, runs)

  pub no_hit : All (Misses taken) is.statements → (built : Output) × (assembly_over taken text ≡ Ok built)
  unfolding output_from
  no_hit miss =
      let put = parts _ _ (sym (append-nil is.statements)) (recursion_from_All (Misses taken) is.statements miss) in (
        put.next,
        runs ∙ ap (λ ss. output_from 1 is.symbols (over taken) (map (λ (s : Statement). s.source) ss)
            (map (λ (s : Statement). s.address) ss)) (sym (append-nil is.statements)) ∙ put.goes,
      )
