-- A directory text as a whole: its first fault by its head line and the lines after it, and the laws of readings.
use Rattle.std.proofs.Common.{◌≡◌, ◌≢◌, ◌<◌, ◌==◌, ◌⊎◌, inl, inr, ⊎_elim, ℕ, true, false, cond, not, List, [], ◌∷◌, length, drop, get_or, map, find, All, AllPairs, Option, Some, None, option_map, is_some, Result, Ok, Err, refl, sym, ap, ap₂, ◌∙◌, subst, arith, true≢false}
use Rattle.std.specs.Prelude.{IfOk, IfErr}
use Rattle.std.specs.List.{range_with_len}
use Rattle.std.specs.Option.{option_map_or, option_or}
use Rattle.std.proofs.lemmas.Bool.{cases_Bool, and_parts, eqb-true, eq-eqb, not-false, not_from_true, not_from_false}
use Rattle.std.proofs.lemmas.List.{ext_get_or, get_or-map, length-map, get_or_default}
use Rattle.std.proofs.lemmas.List.FromFn.{get_or-map-range_with_len, length-map-range_with_len}
use Rattle.mn_base.specs.declared.refusal.Refusal.{Refusal}
use Rattle.mn_base.specs.declared.refusal.Refusal.TheVariants as refusal
use Rattle.mn_base.specs.declared.refusal.Refusal.TheVariants.{Fault}
use Rattle.mn_base.specs.Refused.{IfFault, Gives, Refuses}
use Rattle.mn_base.specs.Among.{Among}
use Rattle.mn_base.proofs.Members.{All-Among, AllPairs-Among}
use Rattle.mn_base.specs.Lines.{lines_of, first_line_fault}
use Rattle.mn_base.specs.Fields.{field_of, fields_of}
use Rattle.changes.specs.Head.{first_head_labels}
use Rattle.distill.specs.Distilled.{DistilledView}
use Rattle.ownership.specs.declared.faults.AssignFault.{AssignFault}
use Rattle.ownership.specs.declared.faults.AssignFault.TheVariants.{Head, Missing}
use Rattle.ownership.specs.Directory.{DirectoryView}
use Rattle.ownership.specs.Entries.{entries_of}
use Rattle.ownership.specs.Owned.{Owned, is_owned, owner_in}
use Rattle.ownership.specs.Reading.{AreOwnerLines, Directs}
use Rattle.ownership.specs.Owners.{AreOwners, SayOwners, Misses}
use Rattle.ownership.specs.Faults.{are_head, is_head, said_by, owner_fault, missing_fault, owners_fault, directory_fault, DirectoryFirst}
use Rattle.ownership.proofs.Finds.{find_least, find_no, none_passes, is_owned-find, owned_among, has_owner_is, found_among}
use Rattle.ownership.proofs.NoFault.{said_back, no_lines, SaidBy, owners_said, no_fault}

-- ---- the head line
head_numbers : (cores pipes : ℕ) (numbers : List ℕ) → are_head cores pipes numbers ≡ true → numbers ≡ cores ∷ pipes ∷ []
head_numbers cores pipes [] e = cc
head_numbers cores pipes (k ∷ []) e = cc
head_numbers cores pipes (k ∷ p ∷ c ∷ more) e = cc
head_numbers cores pipes (k ∷ p ∷ []) e =
    let tests = and_parts _ _ e in
    let k_is : k ≡ cores = eqb-true k cores tests.0 in
    let p_is : p ≡ pipes = eqb-true p pipes tests.1 in
    cc

pub headed : (cores pipes : ℕ) (line : List ℕ) → is_head cores pipes line ≡ true → fields_of first_head_labels line ≡ Some (cores ∷ pipes ∷ [])
unfolding is_head
headed cores pipes line e = go (fields_of first_head_labels line) refl e
  where
    go : (o : Option (List ℕ)) → fields_of first_head_labels line ≡ o → option_map_or (are_head cores pipes) o false ≡ true
        → fields_of first_head_labels line ≡ Some (cores ∷ pipes ∷ [])
    go None is e = cc
    go (Some numbers) is e = is ∙ ap (λ (ns : List ℕ). Some ns) (head_numbers cores pipes numbers e)

pub heads : (cores pipes : ℕ) (line : List ℕ) → fields_of first_head_labels line ≡ Some (cores ∷ pipes ∷ []) → is_head cores pipes line ≡ true
unfolding is_head
heads cores pipes line numbers = rw (numbers, eq-eqb cores cores refl, eq-eqb pipes pipes refl) refl

-- ---- the first fault by the head line
pub fault_behind : (text : List ℕ) (d : DistilledView) (cores : ℕ) (head : List ℕ) (body : List (List ℕ)) → lines_of text ≡ head ∷ body
    → is_head cores (length d.pipes) head ≡ true → directory_fault text d cores ≡ owners_fault (length d.pipes) cores body
fault_behind text d cores head body lines headed_by = rw (lines, headed_by) refl

pub head_fault : (text : List ℕ) (d : DistilledView) (cores : ℕ) (head : List ℕ) (body : List (List ℕ)) → lines_of text ≡ head ∷ body
    → is_head cores (length d.pipes) head ≡ false → directory_fault text d cores ≡ Some Head
head_fault text d cores head body lines other = rw (lines, other) refl

pub empty_fault : (d : DistilledView) (cores : ℕ) → directory_fault [] d cores ≡ Some Head
unfolding is_head first_head_labels field_of
empty_fault d cores = refl

-- ---- missing pipes
pub missing : (pipes cores : ℕ) (lines : List (List ℕ)) (owners : List (Option ℕ)) (fault : AssignFault) → SayOwners pipes cores lines owners
    → Misses owners fault → missing_fault pipes lines ≡ Some fault
missing pipes cores lines owners fault say miss =
    ap (option_map (λ q. Missing q))
    (ap (λ (os : List Owned). find (λ q. not (is_owned os q)) (range_with_len 0 pipes)) (said_back lines say.owned say.are.say)
    ∙ find_least (λ q. not (is_owned say.owned q)) pipes miss.pipe within free others)
    ∙ ap (λ (f : AssignFault). Some f) (sym miss.is)
  where
    len : length owners ≡ pipes
    len = say.owners_are.len

    within : miss.pipe < pipes
    within = let low = miss.within in let same = len in omega arith

    free : not (is_owned say.owned miss.pipe) ≡ true
    free =
        not_from_false (is_owned say.owned miss.pipe)
        (sym (has_owner_is pipes say.owned owners say.owners_are miss.pipe within) ∙ ap is_some miss.free)

    has : (x : Option ℕ) → (x ≡ None → ⊥) → is_some x ≡ true
    has None other = absurd (other refl)
    has (Some x) other = refl

    others : (k : ℕ) → k < miss.pipe → not (is_owned say.owned k) ≡ false
    others k low =
        not_from_true (is_owned say.owned k)
        (sym (has_owner_is pipes say.owned owners say.owners_are k (omega (arith, within)))
        ∙ has (get_or owners k None) (miss.least k low))

-- a pipe that is owned isn't missing
pub none_missing : (pipes cores : ℕ) (lines : List (List ℕ)) (owned : List Owned) → AreOwnerLines pipes cores lines owned
    → ((q : ℕ) → q < pipes → is_owned owned q ≡ true) → missing_fault pipes lines ≡ None
none_missing pipes cores lines owned are each =
    ap (option_map (λ q. Missing q))
    (ap (λ (os : List Owned). find (λ q. not (is_owned os q)) (range_with_len 0 pipes)) (said_back lines owned are.say)
    ∙ find_no (λ q. not (is_owned owned q)) pipes (λ k low. not_from_true (is_owned owned k) (each k low)))

-- ---- what the text says
-- owners by number, one for each pipe
pub owner_among : (pipes : ℕ) (owned : List Owned) (owners : List (Option ℕ)) (cores : List ℕ) → AreOwners pipes owned owners
    → map (λ core. Some core) cores ≡ owners → (q : ℕ) → q < pipes → Among (record { pipe = q; core = get_or cores q 0 }) owned
owner_among pipes owned owners cores are same q within =
    found_among owned q (get_or cores q 0)
    (sym (are.are q within)
    ∙ ap (λ (os : List (Option ℕ)). get_or os q None) (sym same)
    ∙ get_or-map (λ (core : ℕ). Some core) cores q 0 None
    (omega (arith, length-map cores (λ (core : ℕ). Some core), ap length same, are.len)))

-- a text has a head line of this distilled topology and so many cores, and its other lines say these owners
pub record IsText (text : List ℕ) (d : DistilledView) (cores : ℕ) (said : List (Option ℕ)) : Type 0 where
  pub head : List ℕ
  pub body : List (List ℕ)
  pub lines : lines_of text ≡ head ∷ body
  pub headed_by : is_head cores (length d.pipes) head ≡ true
  pub say : SayOwners (length d.pipes) cores body said

-- it says the directory of these owners, where each pipe has one
pub directs : (text : List ℕ) (d : DistilledView) (cores : ℕ) (said : List (Option ℕ)) (owners : List ℕ) (directory : DirectoryView)
    → IsText text d cores said → map (λ core. Some core) owners ≡ said
    → directory ≡ record { cores = cores; owners = owners; entries = entries_of d owners } → Directs text d cores directory
directs text d cores said owners directory is same directory_is =
    subst (λ (v : DirectoryView). Directs text d cores v) (sym directory_is)
    (record {
      head = is.head;
      body = is.body;
      owned = is.say.owned;
      lines = is.lines;
      numbers = headed cores (length d.pipes) is.head is.headed_by;
      body_is = is.say.are;
      owners_len = sym (length-map owners (λ (core : ℕ). Some core)) ∙ ap length same ∙ is.say.owners_are.len;
      owners = owner_among (length d.pipes) is.say.owned said owners is.say.owners_are same;
      cores_are = refl;
      entries = refl;
    })

-- owners that lines say are below the number of cores
pub owners_below : (pipes cores : ℕ) (lines : List (List ℕ)) (said : List (Option ℕ)) (owners : List ℕ) → SayOwners pipes cores lines said
    → map (λ core. Some core) owners ≡ said → All (λ core. core < cores) owners
owners_below pipes cores lines said owners say same = λ k d within.
    let len : length owners ≡ pipes = sym (length-map owners (λ (core : ℕ). Some core)) ∙ ap length same ∙ say.owners_are.len in
    let low : get_or owners k 0 < cores =
    All-Among (λ (o : Owned). o.core < cores) (record { pipe = k; core = get_or owners k 0 }) say.owned say.are.cores_are
    (owner_among pipes say.owned said owners say.owners_are same k (omega (arith, len))) in
    subst (λ n. n < cores) (get_or_default owners k 0 d within) low

-- a text that says a directory has no fault
pub faultless : (text : List ℕ) (d : DistilledView) (cores : ℕ) (directory : DirectoryView) → Directs text d cores directory
    → directory_fault text d cores ≡ None
faultless text d cores directory is =
    fault_behind text d cores is.head is.body is.lines (heads cores (length d.pipes) is.head is.numbers)
    ∙ ap₂ (λ (a b : Option AssignFault). option_or a b)
    (no_fault (length d.pipes) cores [] [] is.body is.owned tt is.body_is.say is.body_is.pipes_are is.body_is.cores_are is.body_is.once)
    (none_missing (length d.pipes) cores is.body is.owned is.body_is
    (λ q low. owned_among is.owned (record { pipe = q; core = get_or directory.owners q 0 }) (is.owners q low)))

pub never_both : (text : List ℕ) (d : DistilledView) (cores : ℕ) (directory : DirectoryView) (fault : AssignFault)
    → Directs text d cores directory → DirectoryFirst text d cores fault → ⊥
never_both text d cores directory fault is first =
    let none : None ≡ Some fault = sym (faultless text d cores directory is) ∙ first in cc

pub one_fault : (text : List ℕ) (d : DistilledView) (cores : ℕ) (fault other : AssignFault) → DirectoryFirst text d cores fault
    → DirectoryFirst text d cores other → fault ≡ other
one_fault text d cores fault other a b = let same : Some fault ≡ Some other = sym a ∙ b in cc

-- the owner of a pipe is one
one_core : (owned : List Owned) (q a b : ℕ) → AllPairs (λ o p. o.pipe ≢ p.pipe) owned → Among (record { pipe = q; core = a }) owned
    → Among (record { pipe = q; core = b }) owned → a ≡ b
one_core owned q a b once at_a at_b =
    let x : Owned = record { pipe = q; core = a } in
    let y : Owned = record { pipe = q; core = b } in
    ⊎_elim
    (λ (same : x ≡ y). ap (λ (o : Owned). o.core) same)
    (λ other. absurd (⊎_elim (λ (apart : q ≢ q). apart refl) (λ (apart : q ≢ q). apart refl) other))
    (AllPairs-Among (λ (o p : Owned). o.pipe ≢ p.pipe) x y owned once at_a at_b)

one_directory : (v w : DirectoryView) → v.cores ≡ w.cores → v.owners ≡ w.owners → v.entries ≡ w.entries → v ≡ w
one_directory v w cores owners entries =
    ap₂ (λ (c : ℕ) (o : List ℕ). let x : DirectoryView = record { cores = c; owners = o; entries = v.entries } in x) cores owners
    ∙ ap (λ (e : List ℕ). let x : DirectoryView = record { cores = w.cores; owners = w.owners; entries = e } in x) entries

pub one_reading : (text : List ℕ) (d : DistilledView) (cores : ℕ) (directory other : DirectoryView) → Directs text d cores directory
    → Directs text d cores other → directory ≡ other
one_reading text d cores v w a b =
    let bodies : a.body ≡ b.body = ap (drop 1) (sym a.lines ∙ b.lines) in
    let owned : a.owned ≡ b.owned =
    sym (said_back a.body a.owned a.body_is.say) ∙ ap said_by bodies ∙ said_back b.body b.owned b.body_is.say in
    let owners : v.owners ≡ w.owners =
    ext_get_or 0 v.owners w.owners (a.owners_len ∙ sym b.owners_len)
    (λ q within.
    let low : q < length d.pipes = omega (arith, a.owners_len) in
    one_core b.owned q (get_or v.owners q 0) (get_or w.owners q 0) b.body_is.once
    (subst (λ (os : List Owned). Among (record { pipe = q; core = get_or v.owners q 0 }) os) owned (a.owners q low))
    (b.owners q low)) in
    one_directory v w (a.cores_are ∙ sym b.cores_are) owners
    (a.entries ∙ ap (entries_of d) owners ∙ sym b.entries)

-- ---- each text
abbrev Answered : List ℕ → DistilledView → ℕ → Type 0
Answered text d cores =
    ((directory : DirectoryView) × Directs text d cores directory) ⊎ ((fault : AssignFault) × DirectoryFirst text d cores fault)

-- the owner of an owned pipe stands among the owners
pub owner_there : (owned : List Owned) (q : ℕ) → is_owned owned q ≡ true → Among (record { pipe = q; core = owner_in owned q }) owned
owner_there owned q has = go (find (λ o. o.pipe == q) owned) refl
  where
    go : (x : Option Owned) → find (λ o. o.pipe == q) owned ≡ x → Among (record { pipe = q; core = option_map_or (λ o. o.core) x 0 }) owned
    go None is =
        let never : true ≡ false = sym has ∙ is_owned-find owned q ∙ ap is_some is in absurd (true≢false never)
    go (Some o) is = found_among owned q o.core (ap (option_map (λ p. p.core)) is)

body_answered : (text : List ℕ) (d : DistilledView) (cores : ℕ) (head : List ℕ) (body : List (List ℕ)) → lines_of text ≡ head ∷ body
    → is_head cores (length d.pipes) head ≡ true → Answered text d cores
body_answered text d cores head body lines headed_by =
    by_line (first_line_fault (owner_fault (length d.pipes) cores) [] body) refl
  where
    behind : directory_fault text d cores ≡ owners_fault (length d.pipes) cores body
    behind = fault_behind text d cores head body lines headed_by

    by_line : (o : Option AssignFault) → first_line_fault (owner_fault (length d.pipes) cores) [] body ≡ o → Answered text d cores
    by_line (Some fault) found =
        inr (fault, behind ∙ ap (λ (x : Option AssignFault). option_or x (missing_fault (length d.pipes) body)) found)
    by_line None none =
        by_pipe (find (λ q. not (is_owned (said_by body) q)) (range_with_len 0 (length d.pipes))) refl
        (owners_said (length d.pipes) cores [] body [] (no_lines (length d.pipes) cores) none)
      where
        by_pipe : (o : Option ℕ) → find (λ q. not (is_owned (said_by body) q)) (range_with_len 0 (length d.pipes)) ≡ o
            → SaidBy (length d.pipes) cores body → Answered text d cores
        by_pipe (Some q) found said =
            inr (
              Missing q,
              behind
                  ∙ ap (λ (x : Option AssignFault). option_or x (missing_fault (length d.pipes) body)) none
                  ∙ ap (option_map (λ n. Missing n)) found,
            )
        by_pipe None found said =
            let owners : List ℕ = map (owner_in said.owned) (range_with_len 0 (length d.pipes)) in
            let directory : DirectoryView = record { cores = cores; owners = owners; entries = entries_of d owners } in
            inl (
              directory,
              record {
                head = head;
                body = body;
                owned = said.owned;
                lines = lines;
                numbers = headed cores (length d.pipes) head headed_by;
                body_is = said.are;
                owners_len = length-map-range_with_len (owner_in said.owned) 0 (length d.pipes);
                owners = λ q low.
                    subst (λ (core : ℕ). Among (record { pipe = q; core = core }) said.owned)
                    (sym (get_or-map-range_with_len (owner_in said.owned) 0 (length d.pipes) q q 0 low (omega arith)))
                    (owner_there said.owned q
                    (subst (λ (os : List Owned). is_owned os q ≡ true) (said_back body said.owned said.are.say)
                    (not-false (is_owned (said_by body) q) (none_passes (λ n. not (is_owned (said_by body) n)) (length d.pipes) found q low))));
                cores_are = refl;
                entries = refl;
              },
            )

pub each_text : (text : List ℕ) (d : DistilledView) (cores : ℕ) → Answered text d cores
each_text text d cores = by_lines (lines_of text) refl
  where
    by_lines : (lines : List (List ℕ)) → lines_of text ≡ lines → Answered text d cores
    by_lines [] is =
        inr (
          Head,
          ap (λ (ls : List (List ℕ)). cond (is_head cores (length d.pipes) (get_or ls 0 [])) (owners_fault (length d.pipes) cores (drop 1 ls)) (Some Head)) is
              ∙ empty_fault d cores,
        )
    by_lines (head ∷ body) is =
        ⊎_elim
        (λ (headed_by : is_head cores (length d.pipes) head ≡ true). body_answered text d cores head body is headed_by)
        (λ (no : is_head cores (length d.pipes) head ≡ false). inr (Head, head_fault text d cores head body is no))
        (cases_Bool (is_head cores (length d.pipes) head))

-- ---- a text that says a directory may be answered by this alone
pub gives_directory : (text : List ℕ) (d : DistilledView) (cores : ℕ) (result : Result DirectoryView (Refusal AssignFault))
    (directory : DirectoryView) → IfOk result (Directs text d cores) → IfErr result (λ e. IfFault e (DirectoryFirst text d cores))
    → Directs text d cores directory → Gives directory result
gives_directory text d cores (Ok given) directory found faults is = one_reading text d cores given directory found is
gives_directory text d cores (Err refusal.NoMemory) directory found faults is = tt
gives_directory text d cores (Err (Fault f)) directory found faults is = never_both text d cores directory f is faults

pub gives_fault : (text : List ℕ) (d : DistilledView) (cores : ℕ) (result : Result DirectoryView (Refusal AssignFault))
    (fault : AssignFault) → IfOk result (Directs text d cores) → IfErr result (λ e. IfFault e (DirectoryFirst text d cores))
    → DirectoryFirst text d cores fault → Refuses fault result
gives_fault text d cores (Ok given) fault found faults first = never_both text d cores given fault found first
gives_fault text d cores (Err refusal.NoMemory) fault found faults first = tt
gives_fault text d cores (Err (Fault f)) fault found faults first = one_fault text d cores f fault faults first

-- ---- what the reader finds on its way
pub no_text_fault : (text : List ℕ) (d : DistilledView) (cores : ℕ) → (length text == 0) ≡ true → DirectoryFirst text d cores Head
no_text_fault [] d cores none = empty_fault d cores
no_text_fault (b ∷ bs) d cores none = let never : length (b ∷ bs) ≡ 0 = eqb-true (length (b ∷ bs)) 0 none in absurd (omega (arith, never))

pub missed : (text : List ℕ) (d : DistilledView) (cores : ℕ) (said : List (Option ℕ)) (r : Refusal AssignFault) → IsText text d cores said
    → IfFault r (Misses said) → IfFault r (DirectoryFirst text d cores)
missed text d cores said refusal.NoMemory is misses = tt
missed text d cores said (Fault f) is misses =
    fault_behind text d cores is.head is.body is.lines is.headed_by
    ∙ ap (λ (x : Option AssignFault). option_or x (missing_fault (length d.pipes) is.body)) is.say.faultless
    ∙ missing (length d.pipes) cores is.body said f is.say misses
