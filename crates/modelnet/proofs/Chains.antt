-- Steps of the loops that make the setup of a chain.
use Rattle.std.proofs.Common.{zero, suc, ◌≡◌, ◌<◌, ◌+◌, ◌++◌, ℕ, List, [], ◌∷◌, length, take, get_or, map, sym, ◌∙◌, ap, arith, add-one, add-zero, zero-add}
use Rattle.std.specs.List.{AllZip, enumerate_from, range_with_len}
use Rattle.std.proofs.lemmas.List.{take_more, length-take-le, map-append}
use Rattle.pcap_io.specs.declared.packet.Packet.{Packet}
use Rattle.modelnet.specs.Chain.{plan_of, plans_of}

pub AllZip-add : {A B : Type 0} (R : A → B → Type 0) (xs : List A) (ys : List B) (x : A) (y : B) → AllZip R xs ys → R x y
    → AllZip R (xs ++ x ∷ []) (ys ++ y ∷ [])
AllZip-add R [] [] x y all one = (one, tt)
AllZip-add R [] (w ∷ ys) x y all one = absurd all
AllZip-add R (z ∷ xs) [] x y all one = absurd all
AllZip-add R (z ∷ xs) (w ∷ ys) x y all one = (all.0, AllZip-add R xs ys x y all.1 one)

-- one element more
pub AllZip-more : {A B : Type 0} (R : A → B → Type 0) (xs : List A) (ys : List B) (i : ℕ) (d : A) (y : B) → i < length xs
    → AllZip R (take i xs) ys → R (get_or xs i d) y → AllZip R (take (i + 1) xs) (ys ++ y ∷ [])
AllZip-more R xs ys i d y within all one = rw (take_more xs i d within) (AllZip-add R (take i xs) ys (get_or xs i d) y all one)

pub enumerate_from-push : {X : Type 0} (n : ℕ) (xs : List X) (x : X)
    → enumerate_from n (xs ++ x ∷ []) ≡ enumerate_from n xs ++ (n + length xs, x) ∷ []
enumerate_from-push n [] x = ap (λ k. (k, x) ∷ []) (sym (add-zero n))
enumerate_from-push n (y ∷ xs) x =
    ap (λ zs. (n, y) ∷ zs) (enumerate_from-push (n + 1) xs x ∙ ap (λ k. enumerate_from (n + 1) xs ++ (k, x) ∷ []) (omega arith))

pub plans-more : (base tick_ns : ℕ) (packets : List Packet) (i : ℕ) (d : Packet) → i < length packets
    → plans_of base tick_ns (take (i + 1) packets) ≡ plans_of base tick_ns (take i packets) ++ plan_of base tick_ns
    (i, get_or packets i d) ∷ []
plans-more base tick_ns packets i d within =
    ap (λ ps. plans_of base tick_ns ps) (take_more packets i d within)
    ∙ ap (λ ps. map (plan_of base tick_ns) ps) (enumerate_from-push 0 (take i packets) (get_or packets i d))
    ∙ map-append (plan_of base tick_ns) (enumerate_from 0 (take i packets)) ((0 + length (take i packets), get_or packets i d) ∷ [])
    ∙ ap (λ k. plans_of base tick_ns (take i packets) ++ plan_of base tick_ns (k, get_or packets i d) ∷ [])
    (zero-add (length (take i packets)) ∙ length-take-le i packets (omega arith))

-- the numbers from a on, with one more
pub range-suc : (a n : ℕ) → range_with_len a (suc n) ≡ range_with_len a n ++ (a + n) ∷ []
range-suc a zero = ap (λ k. k ∷ []) (sym (add-zero a))
range-suc a (suc n) = ap (λ ks. a ∷ ks) (range-suc (a + 1) n ∙ ap (λ k. range_with_len (a + 1) n ++ k ∷ []) (omega arith))

pub numbers-more : (n : ℕ) → range_with_len 0 (n + 1) ≡ range_with_len 0 n ++ n ∷ []
numbers-more n = rw (add-one n) (range-suc 0 n ∙ ap (λ k. range_with_len 0 n ++ k ∷ []) (zero-add n))
