-- A quote and look in one shows what the quote, and the look on the book after it, show, or leaves everything as it was.
use mathlib.Core.Path.{◌≡◌, refl}
use Prim.Native.Nat.{ℕ, zero, suc}
use native.Mathlib.Omega.{arith}
use mathlib.Core.List.{List}
use lib.ListN.{length}
use Rattle.refusals.specs.Refusals.{granted}
use Rattle.model.specs.Book.{reply_of, quote_answer, quote_reply, quote_head, quote_tables, quote_out, look_answer, look_reply, look_out, both_list, both_answer, both_reply, both_listed, both_tables, both_out, both_cells}
use Rattle.model.specs.Calls.{Quote, Look, Both, Outputs, World, book_seen, head_after, world_after, book_step}
use Rattle.model_claims.specs.Claims.{InOne}

module _ (x : List ℕ) (n : ℕ) (o : Outputs) (w : World) where
  -- the answer of the quote, and of the look on the book after it
  abbrev quoted : ℕ
  quoted = quote_answer w.head x w.lent.tables w.lent.watches (length o.bytes)

  abbrev looked : ℕ
  looked =
      look_answer (quote_head w.head x w.lent.tables w.lent.watches) n
      (quote_tables w.head x w.lent.tables w.lent.watches (length o.bytes)) (length o.cells)

  abbrev Shows : Type 0
  Shows = InOne o w (book_seen (Quote x) o w) (book_seen (Look n) o (world_after (Quote x) (book_seen (Quote x) o w) w)) (book_seen (Both x n) o w)

  -- by the book model
  pub both_in_one : Shows
  unfolding book_seen head_after world_after reply_of quote_reply quote_out look_reply look_out both_list both_answer both_reply both_listed both_tables both_out both_cells granted
  both_in_one = go quoted refl
    where
      behind : quoted ≡ 0 → (b : ℕ) → looked ≡ b → Shows
      behind e zero g = record {
        number = rw (e, g);
        both_accepted = λ _. record { outcome = rw (e, g); counts = rw (e, g); bytes = rw (e, g); cells = rw (e, g); lent = rw (e, g) };
        both_refused = λ h. absurd (let none = rw (e, g) at h in omega (arith, none));
      }
      behind e (suc k) g = record {
        number = rw (e, g);
        both_accepted = λ h. absurd (let some = rw (e, g) at h in omega (arith, some));
        both_refused = λ _. record { head = rw (e, g); count = rw (e, g); counts = rw (e, g); outputs = rw (e, g); lent = rw (e, g) };
      }

      go : (a : ℕ) → quoted ≡ a → Shows
      go zero e = behind e looked refl
      go (suc k) e = record {
        number = rw e;
        both_accepted = λ h. absurd (let some = rw e at h in omega (arith, some));
        both_refused = λ _. record { head = rw e; count = rw e; counts = rw e; outputs = rw e; lent = rw e };
      }
