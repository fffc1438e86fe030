-- What is printed of a directory says that directory.
use Rattle.std.proofs.Common.{◌≡◌, ◌≢◌, ◌<◌, ◌≤◌, ◌+◌, ◌^◌, ◌==◌, inl, inr, ℕ, zero, suc, true, false, List, [], ◌∷◌, ◌++◌, length, get_or, All, AllPairs, Some, refl, sym, ap, ◌∙◌, subst, arith, true≢false}
use Rattle.std.specs.Prelude.{decimal}
use Rattle.std.specs.List.{AllZip, list_any, list_all, AllByRecursion}
use Rattle.std.proofs.lemmas.Bool.{or_from, ne_eqb, and_parts}
use Rattle.std.proofs.lemmas.List.Elements.{All-cons, All-nil}
use Rattle.std.proofs.lemmas.List.Folds.{list_any-append}
use Rattle.std.proofs.lemmas.List.Kept.{AllPairs-cons}
use Rattle.mn_base.specs.declared.limits.TheConstants.{CORES_MAX, PIPES_MAX}
use Rattle.mn_base.specs.Among.{Among}
use Rattle.mn_base.specs.Decimal.{is_digit}
use Rattle.mn_base.specs.Fields.{fields_of, line_of_fields}
use Rattle.changes.specs.Head.{first_head_labels, directory_head}
use Rattle.distill.specs.Distilled.{DistilledView}
use Rattle.ownership.specs.Directory.{DirectoryView}
use Rattle.ownership.specs.Owned.{Owned}
use Rattle.ownership.specs.Texts.{pipe_labels, owned_of, pipe_lines, directory_text}
use Rattle.ownership.specs.Reading.{SaysOwner, Directs}
use Rattle.ownership.specs.Laws.{IsDirectoryOf}
use Rattle.ownership.proofs.LinesBack.{HaveNoFeed, lines_read_back}
use Rattle.ownership.proofs.FieldsBack.{AreLabels, all_digits_of, fields_read_back}

-- the owners of pipes that are numbered from q on
abbrev pub numbered : ℕ → List ℕ → List Owned
numbered q [] = []
numbered q (core ∷ cores) = record { pipe = q; core = core } ∷ numbered (q + 1) cores

-- ---- the labels of both kinds of lines
pipe_labels_are : AreLabels pipe_labels
unfolding pipe_labels
pipe_labels_are = (refl, (refl, tt))

pipe_labels_len : length pipe_labels ≡ 2
unfolding pipe_labels
pipe_labels_len = refl

pipe_labels_no_feed : HaveNoFeed pipe_labels
unfolding pipe_labels
pipe_labels_no_feed = (refl, (refl, tt))

head_labels_are : AreLabels first_head_labels
unfolding first_head_labels
head_labels_are = (refl, (refl, tt))

head_labels_len : length first_head_labels ≡ 2
unfolding first_head_labels
head_labels_len = refl

head_labels_no_feed : HaveNoFeed first_head_labels
unfolding first_head_labels
head_labels_no_feed = (refl, (refl, tt))

-- a line of a pipe says its owner
line_says : (q core : ℕ) → q < 2 ^ 64 → core < 2 ^ 64 → owned_of (line_of_fields pipe_labels (q ∷ core ∷ [])) ≡ Some (record { pipe = q; core = core })
unfolding owned_of
line_says q core low small =
    rw (fields_read_back pipe_labels (q ∷ core ∷ []) pipe_labels_are pipe_labels_len (low, (small, tt))) refl

lines_say : (q : ℕ) (cores : List ℕ) → q + length cores ≤ PIPES_MAX → All (λ core. core < CORES_MAX + 1) cores
    → AllZip SaysOwner (pipe_lines q cores) (numbered q cores)
lines_say q [] few small = tt
lines_say q (core ∷ cores) few small =
    let low : core < CORES_MAX + 1 = small 0 core (omega arith) in (
      line_says q core (omega (arith, few)) (omega arith),
      lines_say (q + 1) cores (omega (arith, few)) (λ k d within. small (suc k) d (omega arith)),
    )

pipes_below : (n q : ℕ) (cores : List ℕ) → q + length cores ≤ n → All (λ o. o.pipe < n) (numbered q cores)
pipes_below n q [] few = All-nil (λ o. o.pipe < n)
pipes_below n q (core ∷ cores) few =
    All-cons (λ o. o.pipe < n) (record { pipe = q; core = core }) (numbered (q + 1) cores) (omega (arith, few))
    (pipes_below n (q + 1) cores (omega (arith, few)))

cores_below : (n q : ℕ) (cores : List ℕ) → All (λ core. core < n) cores → All (λ o. o.core < n) (numbered q cores)
cores_below n q [] small = All-nil (λ o. o.core < n)
cores_below n q (core ∷ cores) small =
    All-cons (λ o. o.core < n) (record { pipe = q; core = core }) (numbered (q + 1) cores) (small 0 core (omega arith))
    (cores_below n (q + 1) cores (λ k d within. small (suc k) d (omega arith)))

later_pipes : (p q : ℕ) (cores : List ℕ) → p < q → All (λ o. p ≢ o.pipe) (numbered q cores)
later_pipes p q [] low = All-nil (λ o. p ≢ o.pipe)
later_pipes p q (core ∷ cores) low =
    All-cons (λ o. p ≢ o.pipe) (record { pipe = q; core = core }) (numbered (q + 1) cores) (λ (same : p ≡ q). omega (arith, low, same))
    (later_pipes p (q + 1) cores (omega (arith, low)))

apart : (q : ℕ) (cores : List ℕ) → AllPairs (λ o p. o.pipe ≢ p.pipe) (numbered q cores)
apart q [] = λ i j d lt within. absurd (omega arith)
apart q (core ∷ cores) =
    AllPairs-cons (λ o p. o.pipe ≢ p.pipe) (record { pipe = q; core = core }) (numbered (q + 1) cores)
    (later_pipes q (q + 1) cores (omega arith)) (apart (q + 1) cores)

-- the owner of each pipe stands among them
there : (q k : ℕ) (cores : List ℕ) → k < length cores → Among (record { pipe = q + k; core = get_or cores k 0 }) (numbered q cores)
there q k [] within = absurd (omega arith)
there q zero (core ∷ cores) within = inl (ap (λ n. let o : Owned = record { pipe = n; core = core } in o) (let same : q ≡ q + 0 = omega arith in same))
there q (suc k) (core ∷ cores) within =
    inr (subst (λ n. Among (record { pipe = n; core = get_or cores k 0 }) (numbered (q + 1) cores))
    (let same : q + 1 + k ≡ q + suc k = omega arith in same)
    (there (q + 1) k cores (omega arith)))

-- ---- no line has a line feed
no_feed_digit : (b : ℕ) → is_digit b ≡ true → (b == 10) ≡ false
no_feed_digit b digit =
    ne_eqb b 10
    (λ same. true≢false (sym (subst (λ n. is_digit n ≡ true) same digit)))

no_feed_digits : (text : List ℕ) → list_all is_digit text ≡ true → list_any (λ b. b == 10) text ≡ false
no_feed_digits [] all = refl
no_feed_digits (b ∷ bs) all =
    let parts = and_parts (is_digit b) (list_all is_digit bs) all in
    rw (no_feed_digit b parts.0) (no_feed_digits bs parts.1)

-- labels without line feeds, and decimals
no_feed : (labels : List (List ℕ)) (numbers : List ℕ) → HaveNoFeed labels → AllByRecursion (λ n. n < 2 ^ 64) numbers
    → list_any (λ b. b == 10) (line_of_fields labels numbers) ≡ false
no_feed [] numbers none small = refl
no_feed (label ∷ labels) [] none small = refl
no_feed (label ∷ labels) (n ∷ numbers) none small =
    list_any-append (λ b. b == 10) (label ++ decimal n) (line_of_fields labels numbers)
    ∙ or_from _ _
    (list_any-append (λ b. b == 10) label (decimal n) ∙ or_from _ _ none.0 (no_feed_digits (decimal n) (all_digits_of n small.0)))
    (no_feed labels numbers none.1 small.1)

pipe_lines_no_feed : (q : ℕ) (cores : List ℕ) → q + length cores ≤ PIPES_MAX → All (λ core. core < CORES_MAX + 1) cores
    → HaveNoFeed (pipe_lines q cores)
pipe_lines_no_feed q [] few small = tt
pipe_lines_no_feed q (core ∷ cores) few small =
    let low : core < CORES_MAX + 1 = small 0 core (omega arith) in (
      no_feed pipe_labels (q ∷ core ∷ []) pipe_labels_no_feed (omega (arith, few), (omega arith, tt)),
      pipe_lines_no_feed (q + 1) cores (omega (arith, few)) (λ k d within. small (suc k) d (omega arith)),
    )

head_no_feed : (cores pipes : ℕ) → cores < 2 ^ 64 → pipes < 2 ^ 64 → list_any (λ b. b == 10) (directory_head cores pipes) ≡ false
head_no_feed cores pipes low small = no_feed first_head_labels (cores ∷ pipes ∷ []) head_labels_no_feed (low, (small, tt))

head_says : (cores pipes : ℕ) → cores < 2 ^ 64 → pipes < 2 ^ 64
    → fields_of first_head_labels (directory_head cores pipes) ≡ Some (cores ∷ pipes ∷ [])
head_says cores pipes low small =
    fields_read_back first_head_labels (cores ∷ pipes ∷ []) head_labels_are head_labels_len (low, (small, tt))

pub printed_reads_back : (d : DistilledView) (directory : DirectoryView) → IsDirectoryOf d directory
    → Directs (directory_text directory) d directory.cores directory
printed_reads_back d v is =
    let len : length v.owners ≡ length d.pipes = is.owners_len in
    let cores_low : v.cores < 2 ^ 64 = (let few = is.few_cores in omega arith) in
    let pipes_low : length v.owners < 2 ^ 64 = (let few = is.few_pipes in omega (arith, len)) in
    let few : 0 + length v.owners ≤ PIPES_MAX = (let most = is.few_pipes in omega (arith, len)) in
    let small : All (λ core. core < CORES_MAX + 1) v.owners = λ k e within.
    (let low = is.owners k e within in let few_cores = is.few_cores in omega arith) in
    record {
      head = directory_head v.cores (length v.owners);
      body = pipe_lines 0 v.owners;
      owned = numbered 0 v.owners;
      lines =
          lines_read_back (directory_head v.cores (length v.owners) ∷ pipe_lines 0 v.owners)
          (head_no_feed v.cores (length v.owners) cores_low pipes_low, pipe_lines_no_feed 0 v.owners few small);
      numbers = head_says v.cores (length v.owners) cores_low pipes_low ∙ ap (λ n. Some (v.cores ∷ n ∷ [])) len;
      body_is = record {
        say = lines_say 0 v.owners few small;
        pipes_are = pipes_below (length d.pipes) 0 v.owners (omega (arith, len));
        cores_are = cores_below v.cores 0 v.owners is.owners;
        once = apart 0 v.owners;
      };
      owners_len = len;
      owners = λ q low.
          subst (λ n. Among (record { pipe = n; core = get_or v.owners q 0 }) (numbered 0 v.owners))
          (let same : 0 + q ≡ q = omega arith in same)
          (there 0 q v.owners (omega (arith, len)));
      cores_are = refl;
      entries = is.entries;
    }
