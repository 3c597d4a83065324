-- Numbers staged one after another, for callers too: none, one more, one stretch after another, and memory that changes elsewhere.
use mathlib.Core.Path.{◌≡◌, refl, sym, subst, ◌∙◌}
use mathlib.Core.List.{List}
use mathlib.Core.Logic.{◌⊎◌, inl, inr, ⊎_elim, ◌↔◌}
use Prim.Native.Nat.{ℕ, ◌+◌, ◌/◌, ◌≤◌, ◌<◌}
use native.Mathlib.Omega.{arith}
use native.Mathlib.Nat.{le_refl}
use native.Mathlib.Decide.{dec_lt}
use lib.ListN.{length, set, length-set}
use lib.Seq.{get_or-set_same, get_or-set_other}
use Rattle.std.specs.Prelude.{Option, Some, None, IfNone}
use Rattle.std.proofs.lemmas.Option.{IfSome_then}
use Rattle.model.specs.Limits.{least_work}
use Rattle.rows.specs.Region.{row_numbers, work_rows}
use Rattle.rows.specs.Rows.{KeepsRows}
use Rattle.rows.proofs.Rows.{keeps_none, keeps_as, keeps_then}
use Rattle.staging.specs.Stage.{staged, Different, Adds, Over, HasTaken, AllRows, Stages}

-- ---- in one memory

pub adds_none : {w : List ℕ} {k : ℕ} {Q : ℕ → Type 0} → ((e : ℕ) → Q e → ⊥) → Adds w k k Q
adds_none n =
    record {
      more = le_refl _;
      different = record { only = λ i h l. absurd (omega arith); once = λ i j h l k. absurd (omega arith) };
      all = λ e q. absurd (n e q);
    }

adds_one : {w : List ℕ} {n e : ℕ} → staged w n ≡ e → Adds w n (n + 1) (λ x. x ≡ e)
adds_one {w} {n} {e} s =
    record {
      more = omega arith;
      different = record {
        only = λ i h l. let q : i ≡ n = omega arith in subst (λ (j : ℕ). staged w j ≡ e) (sym q) s;
        once = λ i j h l k. absurd (omega arith);
      };
      all = λ x q. record { i = n; low = le_refl n; high = omega arith; is = s ∙ sym q };
    }

module _ {w : List ℕ} {k n : ℕ} {P Q : ℕ → Type 0} where
  -- the same numbers in other words
  different_as : ((e : ℕ) → P e → Q e) → Different w k n P → Different w k n Q
  different_as f d = record { only = λ i h l. f _ (d.only i h l); once = d.once }

  adds_as : ((e : ℕ) → P e ↔ Q e) → Adds w k n P → Adds w k n Q
  adds_as f a = record { more = a.more; different = different_as (λ e. (f e).0) a.different; all = λ e q. a.all e ((f e).1 q) }

  over_as : ((e : ℕ) → P e → Q e) → Over w k n P → Over w k n Q
  over_as f o = record { different = different_as f o.different; extra = o.extra; is = f _ o.is; fresh = o.fresh }

-- one stretch after another
module _ {w : List ℕ} {k m : ℕ} {P Q : ℕ → Type 0} (a : Adds w k m P) (apart : (e : ℕ) → P e → Q e → ⊥) where
  different_then : {n : ℕ} → Different w m n Q → Different w k n (λ e. P e ⊎ Q e)
  different_then {n} b =
      record {
        only = λ i l c. elim (dec_lt i m) [ yes h ↦ inl (a.different.only i l h) | no h ↦ inr (b.only i (omega arith) c) ];
        once = λ i j l c d q. elim (dec_lt j m) [
          | yes h ↦ a.different.once i j l c h q
          | no h ↦ elim (dec_lt i m) [
            | yes g ↦ apart _ (a.different.only i l g) (rw q (b.only j (omega arith) d))
            | no g ↦ b.once i j (omega arith) c d q
          ]
        ];
      }

  adds_then : {n : ℕ} → Adds w m n Q → Adds w k n (λ e. P e ⊎ Q e)
  adds_then b =
      record {
        more = omega (arith, a.more, b.more);
        different = different_then b.different;
        all = λ e. ⊎_elim
            (λ p. let s = a.all e p in record { i = s.i; low = s.low; high = omega (arith, s.high, b.more); is = s.is })
            (λ q. let s = b.all e q in record { i = s.i; low = omega (arith, s.low, a.more); high = s.high; is = s.is });
      }

  over_then : {n : ℕ} → Over w m n Q → Over w k n (λ e. P e ⊎ Q e)
  over_then b =
      record {
        different = different_then b.different;
        extra = b.extra;
        is = inr b.is;
        fresh = λ s. elim (dec_lt s.i m) [
          | yes h ↦ apart _ (a.different.only s.i s.low h) (rw s.is b.is)
          | no h ↦ b.fresh (record { i = s.i; low = omega arith; high = s.high; is = s.is })
        ];
      }

-- ---- in another memory with the same staged numbers

module _ {w w' : List ℕ} {k n : ℕ} {P : ℕ → Type 0} (s : (i : ℕ) → i < n → staged w' i ≡ staged w i) where
  different_kept : Different w k n P → Different w' k n P
  different_kept d =
      record {
        only = λ i h l. subst P (sym (s i l)) (d.only i h l);
        once = λ i j h b l q. d.once i j h b l (sym (s i (omega arith)) ∙ q ∙ s j l);
      }

  pub adds_kept : Adds w k n P → Adds w' k n P
  adds_kept a =
      record {
        more = a.more;
        different = different_kept a.different;
        all = λ e q. let t = a.all e q in record { i = t.i; low = t.low; high = t.high; is = s t.i t.high ∙ t.is };
      }

  pub over_kept : Over w k n P → Over w' k n P
  over_kept o =
      record {
        different = different_kept o.different;
        extra = o.extra;
        is = o.is;
        fresh = λ t. o.fresh (record { i = t.i; low = t.low; high = t.high; is = sym (s t.i t.high) ∙ t.is });
      }

-- ---- from memory to memory

pub stages_none : {w : List ℕ} {K P : ℕ → Type 0} {cnt : ℕ} → HasTaken w cnt → ((e : ℕ) → P e → ⊥) → Stages w K P cnt w (Some cnt)
stages_none h n = record { keeps = keeps_none; old = λ i _. refl; done = (h, adds_none n); over = tt }

-- the rows behind the last of work memory are the stage
staged_kept : {w w' : List ℕ} {K : ℕ → Type 0} → KeepsRows w w' K → ((q : ℕ) → work_rows ≤ q → K q) → (i : ℕ) → staged w' i ≡ staged w i
staged_kept h f i = h.same (least_work + i) (f ((least_work + i) / row_numbers) (omega arith))

-- ---- one number: it is staged, or every slot is taken

module _ (w : List ℕ) (n e : ℕ) where
  abbrev w' : List ℕ
  w' = set w (least_work + n) e

  pub stages_put : least_work + n < length w → Stages w AllRows (λ x. x ≡ e) n w' (Some (n + 1))
  stages_put l =
      record {
        keeps = record { len = length-set w _ _; same = λ i x. get_or-set_other w (least_work + n) i e 0 (λ q. omega arith) };
        old = λ i h. get_or-set_other w (least_work + n) (least_work + i) e 0 (λ q. omega arith);
        done = (omega arith, adds_one (get_or-set_same w (least_work + n) e 0 l));
        over = tt;
      }

  pub stages_full : least_work + n ≡ length w → Stages w AllRows (λ x. x ≡ e) n w None
  stages_full q =
      record {
        keeps = keeps_none;
        old = λ i _. refl;
        done = tt;
        over = record {
          different = record { only = λ i h l. absurd (omega arith); once = λ i j h l k. absurd (omega arith) };
          extra = e;
          is = refl;
          fresh = λ s. omega (arith, s.low, s.high);
        };
      }

-- ---- whether they fit or not

IfNone_then : (r : Option ℕ) {P Q : Type 0} → IfNone r P → (P → Q) → IfNone r Q
IfNone_then None h f = f h
IfNone_then (Some n) h f = tt

module _ {w w' : List ℕ} {K P : ℕ → Type 0} {cnt : ℕ} {r : Option ℕ} (s : Stages w K P cnt w' r) where
  pub stages_as : {Q : ℕ → Type 0} → ((e : ℕ) → P e ↔ Q e) → Stages w K Q cnt w' r
  stages_as f =
      record {
        keeps = s.keeps;
        old = s.old;
        done = IfSome_then r s.done (λ n d. (d.0, adds_as f d.1));
        over = IfNone_then r s.over (over_as (λ e. (f e).0));
      }

  -- memory changes elsewhere, afterwards and before
  pub stages_kept : {w'' : List ℕ} {L : ℕ → Type 0} → KeepsRows w' w'' L → ((q : ℕ) → K q → L q) → ((q : ℕ) → work_rows ≤ q → L q)
      → Stages w K P cnt w'' r
  stages_kept h f g =
      let same = staged_kept h g in
      record {
        keeps = keeps_then s.keeps (keeps_as f h);
        old = λ i l. same i ∙ s.old i l;
        done = IfSome_then r s.done (λ n d. (d.0, adds_kept (λ i _. same i) d.1));
        over = IfNone_then r s.over (over_kept (λ i _. same i));
      }

  pub stages_since : {v : List ℕ} {L : ℕ → Type 0} → KeepsRows v w L → ((q : ℕ) → K q → L q) → ((q : ℕ) → work_rows ≤ q → L q)
      → Stages v K P cnt w' r
  stages_since h f g =
      record {
        keeps = keeps_then (keeps_as f h) s.keeps;
        old = λ i l. s.old i l ∙ staged_kept h g i;
        done = rw (← h.len) s.done;
        over = rw (← h.len) s.over;
      }

  pub stages_within : {L : ℕ → Type 0} → ((q : ℕ) → L q → K q) → Stages w L P cnt w' r
  stages_within f = record { keeps = keeps_as f s.keeps; old = s.old; done = s.done; over = s.over }

-- ---- more than fit

pub stages_over : {w w' : List ℕ} {K P Q : ℕ → Type 0} {cnt : ℕ} → Stages w K P cnt w' None → ((e : ℕ) → P e → Q e) → Stages w K Q cnt w' None
stages_over s f = record { keeps = s.keeps; old = s.old; done = tt; over = over_as f s.over }

-- ---- n numbers are staged

module _ {w w' : List ℕ} {K P : ℕ → Type 0} {cnt n : ℕ} (s : Stages w K P cnt w' (Some n)) where
  -- as many slots are taken
  pub stages_taken : HasTaken w' n
  stages_taken = rw s.keeps.len s.done.0

  -- the second stretch is begun only if the first fitted
  pub stages_then : {Q : ℕ → Type 0} {w'' : List ℕ} {r : Option ℕ} → ((e : ℕ) → P e → Q e → ⊥) → Stages w' K Q n w'' r
      → Stages w K (λ e. P e ⊎ Q e) cnt w'' r
  stages_then {r = r} apart t =
      let a = s.done.1 in
      record {
        keeps = keeps_then s.keeps t.keeps;
        old = λ i h. t.old i (omega (arith, a.more)) ∙ s.old i h;
        done = IfSome_then r t.done (λ m d. (rw (← s.keeps.len) d.0, adds_then (adds_kept t.old a) apart d.1));
        over = IfNone_then r t.over (λ o. over_then (adds_kept t.old a) apart (rw s.keeps.len at o));
      }
