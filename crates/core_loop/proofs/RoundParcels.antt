-- Making the parcels of a round, core by core.
use Rattle.std.proofs.Common.{◌≡◌, ◌≢◌, ◌⊎◌, inl, inr, ℕ, ◌+◌, ◌<◌, ◌≤◌, List, [], length, get_or, set, slice_index_or, Option, Some, get_or-set_same, get_or-set_other, length-set, refl, sym, ap, ◌∙◌, subst, arith, Vec, Global}
use Rattle.std.proofs.lemmas.Bool.{cases_eq, cases_lt}
use Rattle.std.proofs.lemmas.List.{get_or-map, map-set, get_or_past, get_or_default}
use Rattle.parcel.specs.declared.note.Note.{Note}
use Rattle.parcel.specs.ParcelView.{ParcelView}
use Rattle.core_loop.specs.CoreView.{PeerView, no_peer}
use Rattle.core_loop.specs.Handing.{IsParcelOf, IsHanded, AreHanded, SameNumbers}
use Rattle.core_loop.proofs.Sums.{Lists, items_of}

-- the cores below an index have theirs, and the lists of the others are still there
pub record IsHanding (number : ℕ) (first : Lists) (least : Option ℕ) (ps : List PeerView) (i : ℕ) (qs : List PeerView) (now : Lists) : Type 0 where
  pub as_many : length qs ≡ length ps
  pub as_long : length now ≡ length first
  pub handed : (other : ℕ) → other < i → other < length ps
      → IsHanded number (items_of first) least other (slice_index_or ps other no_peer) (slice_index_or qs other no_peer)
  pub ahead : (other : ℕ) → i ≤ other → slice_index_or qs other no_peer ≡ slice_index_or ps other no_peer
  pub lists : (other : ℕ) → i ≤ other → slice_index_or (items_of now) other [] ≡ slice_index_or (items_of first) other []

pub handing-starts : (number : ℕ) (first : Lists) (least : Option ℕ) (ps : List PeerView) → IsHanding number first least ps 0 ps first
handing-starts number first least ps = record {
  as_many = refl;
  as_long = refl;
  handed = λ other l within. absurd (omega (arith, l));
  ahead = λ other l. refl;
  lists = λ other l. refl;
}

-- the list that is taken out is the one that was there at first
pub handing-list : {number : ℕ} {first : Lists} {least : Option ℕ} {ps : List PeerView} {i : ℕ} {qs : List PeerView} {now : Lists}
    {list there : Vec Note Global} → IsHanding number first least ps i qs now → i < length now → there ≡ get_or now i there → list ≡ there
    → list.items ≡ slice_index_or (items_of first) i []
handing-list {i = i} {now = now} {there = there} h within read same =
    ap (λ (l : Vec Note Global). l.items) (same ∙ read)
    ∙ sym (get_or-map (λ (l : Vec Note Global). l.items) now i there [] within)
    ∙ h.lists i (omega arith)

-- one core more has its parcel, or the core itself its least tick
handing-more : {number : ℕ} {first : Lists} {least : Option ℕ} {ps : List PeerView} {i : ℕ} {qs : List PeerView} {now : Lists}
    {q : PeerView} (new : Vec Note Global) → IsHanding number first least ps i qs now → i < length ps
    → IsHanded number (items_of first) least i (slice_index_or qs i no_peer) q
    → IsHanding number first least ps (i + 1) (set qs i q) (set now i new)
handing-more {number} {first} {least} {ps} {i} {qs} {now} {q} new h within one = record {
  as_many = length-set qs i q ∙ h.as_many;
  as_long = length-set now i new ∙ h.as_long;
  handed = handed;
  ahead = λ other l. get_or-set_other qs i other q no_peer (λ same. omega (arith, same, l)) ∙ h.ahead other (omega (arith, l));
  lists = λ other l.
      ap (λ (ls : List (List Note)). get_or ls other []) (map-set (λ (list : Vec Note Global). list.items) now i new)
      ∙ get_or-set_other (items_of now) i other new.items [] (λ same. omega (arith, same, l))
      ∙ h.lists other (omega (arith, l));
}
  where
    handed : (other : ℕ) → other < i + 1 → other < length ps
        → IsHanded number (items_of first) least other (slice_index_or ps other no_peer) (slice_index_or (set qs i q) other no_peer)
    handed other l inside = go (cases_eq other i)
      where
        go : (other ≡ i) ⊎ (other ≢ i)
            → IsHanded number (items_of first) least other (slice_index_or ps other no_peer) (slice_index_or (set qs i q) other no_peer)
        go (inl same) =
            subst (λ (k : ℕ). IsHanded number (items_of first) least k (slice_index_or ps k no_peer) (slice_index_or (set qs i q) k no_peer)) (sym same)
            (subst (λ (x : PeerView). IsHanded number (items_of first) least i (slice_index_or ps i no_peer) x)
            (sym (get_or-set_same qs i q no_peer (let e = h.as_many in omega (arith, within, e))))
            (subst (λ (x : PeerView). IsHanded number (items_of first) least i x q) (h.ahead i (omega arith)) one))
        go (inr apart) =
            subst (λ (x : PeerView). IsHanded number (items_of first) least other (slice_index_or ps other no_peer) x)
            (sym (get_or-set_other qs i other q no_peer apart)) (h.handed other (omega (arith, l, apart)) inside)

pub handing-ends : (number : ℕ) (first : Lists) (least : Option ℕ) (ps : List PeerView) (i : ℕ) (qs : List PeerView) (now : Lists)
    → IsHanding number first least ps i qs now → length ps ≤ i → AreHanded number (items_of first) least ps qs
handing-ends number first least ps i qs now h all = record {
  as_many = h.as_many;
  each = λ other within. h.handed other (omega (arith, within, all)) within;
}

-- the core's own entry, and that of another
pub handed-own : (number : ℕ) (first : Lists) (least : Option ℕ) (i : ℕ) (p : PeerView) → i ≡ number
    → IsHanded number (items_of first) least i p (record p { least = least })
handed-own number first least i p own = record { posted = refl; taken = refl; own = λ e. refl; owed = λ other. absurd (other own) }

pub handed-other : (number : ℕ) (first : Lists) (least : Option ℕ) (i : ℕ) (p : PeerView) (r : ParcelView) (notes : List Note) → i ≢ number
    → notes ≡ slice_index_or (items_of first) i [] → IsParcelOf notes least r
    → IsHanded number (items_of first) least i p (record p { owed = Some r })
handed-other number first least i p r notes other is parcel = record {
  posted = refl;
  taken = refl;
  own = λ e. absurd (other e);
  owed = λ o. (r, refl, subst (λ (l : List Note). IsParcelOf l least r) is parcel);
}

-- as many parcels were posted and taken as before
pub handed-numbers : (number : ℕ) (lists : List (List Note)) (least : Option ℕ) (ps qs : List PeerView) → AreHanded number lists least ps qs
    → SameNumbers ps qs
handed-numbers number lists least ps qs a = record {
  as_many = a.as_many;
  posts = λ other. posts other (cases_lt other (length ps));
  takes = λ other. takes other (cases_lt other (length ps));
}
  where
    past : (other : ℕ) → length ps ≤ other → slice_index_or qs other no_peer ≡ slice_index_or ps other no_peer
    past other l = get_or_past qs other no_peer (let e = a.as_many in omega (arith, e, l)) ∙ sym (get_or_past ps other no_peer l)

    posts : (other : ℕ) → (other < length ps) ⊎ (length ps ≤ other)
        → (slice_index_or qs other no_peer).posted ≡ (slice_index_or ps other no_peer).posted
    posts other (inl within) = (a.each other within).posted
    posts other (inr l) = ap (λ (p : PeerView). p.posted) (past other l)

    takes : (other : ℕ) → (other < length ps) ⊎ (length ps ≤ other)
        → (slice_index_or qs other no_peer).taken ≡ (slice_index_or ps other no_peer).taken
    takes other (inl within) = (a.each other within).taken
    takes other (inr l) = ap (λ (p : PeerView). p.taken) (past other l)

-- the core's own entry has its least tick
pub handing-own : {number : ℕ} {first : Lists} {least : Option ℕ} {ps : List PeerView} {i : ℕ} {qs : List PeerView} {now : Lists}
    {peer q : PeerView} → IsHanding number first least ps i qs now → i < length ps → i ≡ number
    → peer ≡ get_or qs i peer → q ≡ record peer { least = least } → (new : Vec Note Global)
    → IsHanding number first least ps (i + 1) (set qs i q) (set now i new)
handing-own {number} {first} {least} {ps} {i} {qs} {now} {peer} {q} h within own read is new =
    handing-more new h within
    (subst (λ (p : PeerView). IsHanded number (items_of first) least i p q)
    (read ∙ get_or_default qs i peer no_peer (let e = h.as_many in omega (arith, within, e)))
    (subst (IsHanded number (items_of first) least i peer) (sym is) (handed-own number first least i peer own)))

-- and that of another core the parcel that it is owed
pub handing-other : {number : ℕ} {first : Lists} {least : Option ℕ} {ps : List PeerView} {i : ℕ} {qs : List PeerView} {now : Lists}
    {peer q : PeerView} {r : ParcelView} {notes : List Note} → IsHanding number first least ps i qs now → i < length ps
    → i ≢ number → peer ≡ get_or qs i peer → q ≡ record peer { owed = Some r }
    → notes ≡ slice_index_or (items_of first) i [] → IsParcelOf notes least r → (new : Vec Note Global)
    → IsHanding number first least ps (i + 1) (set qs i q) (set now i new)
handing-other {number} {first} {least} {ps} {i} {qs} {now} {peer} {q} {r} {notes} h within other read is list parcel new =
    handing-more new h within
    (subst (λ (p : PeerView). IsHanded number (items_of first) least i p q)
    (read ∙ get_or_default qs i peer no_peer (let e = h.as_many in omega (arith, within, e)))
    (subst (IsHanded number (items_of first) least i peer) (sym is) (handed-other number first least i peer r notes other list parcel)))
