-- The entries of a certificate, gathered in a table field by field.
use Rattle.std.proofs.Common.{◌≡◌, ℕ, zero, suc, ◌+◌, ◌<◌, ◌≤◌, true, cond, eqb, ◌≢◌, List, [], ◌∷◌, ◌++◌, length, set, replicate, Some, None, Ok, Err, Option, Result, sym, refl, ap, ◌∙◌, subst, ⊎_elim, arith, length-set, get_or-set_other, get_or-set_same, eq-eqb, ne_eqb}
use lib.ListN.{length-replicate}
use Rattle.std.proofs.lemmas.Bool.{cases_eq}
use Rattle.format.specs.Bytes.{word_at}
use Rattle.format.specs.Parts.{Parts}
use Rattle.analysis_theory.specs.Meaning.{Meaning}
use Rattle.analysis_theory.specs.Typing.{Typing}
use Rattle.unit.specs.declared.unit.Unit.{Unit as RuleUnit}
use Rattle.unit.specs.Model.{parts_of}
use Rattle.flow_theory.specs.declared.certificate.CertificateError.{CertificateError}
use Rattle.flow_theory.specs.declared.certificate.Entry.{Entry}
use Rattle.flow_theory.specs.Certificate.{headed, on_front, entries_from, entries_in, entry_in, entry_at}
use Rattle.flow_theory.proofs.Fields.{read_on, on_fronts, fronts_more, fronts_none, fronts_err, first_field, no_field, field_facts, entry_behind}
use Rattle.flow.specs.Answers.{FieldRead, EntriesRead}
use Rattle.flow.specs.Tables.{listed}
use Rattle.flow.proofs.Marking.{nothing_listed}

-- what a field gives, told of the same certificate
pub of_same : {X S : Type 0} (meaning : X → Parts → Meaning S) (a a' : X) (u u' : RuleUnit) (bs bs' : List ℕ) (place least place' least' : ℕ) (r r' : Result (Entry S) CertificateError) → a ≡ a' → u ≡ u' → bs ≡ bs' → r ≡ r' → FieldRead (parts_of u) (meaning a (parts_of u)) bs place least (Some r) place' least' → FieldRead (parts_of u') (meaning a' (parts_of u')) bs' place least (Some r') place' least'
of_same meaning a a' u u' bs bs' place least place' least' r r' i j k e h =
    subst (λ x. FieldRead (parts_of u') (meaning x (parts_of u')) bs' place least (Some r') place' least') i
    (subst (λ x. FieldRead (parts_of x) (meaning a (parts_of x)) bs' place least (Some r') place' least') j
    (subst (λ x. FieldRead (parts_of u) (meaning a (parts_of u)) x place least (Some r') place' least') k
    (subst (λ x. FieldRead (parts_of u) (meaning a (parts_of u)) bs place least (Some x) place' least') e h)))

-- entries were gathered, and what is left to read decides the rest
pub record Gathered {S : Type 0} (p : Parts) (m : Meaning S) (bs : List ℕ) (held : List (Option S)) (place least : ℕ) : Type 0 where
  pub entries : List (Entry S)
  pub fuel : ℕ
  pub enough : length bs ≤ place + fuel
  pub later : (i : ℕ) → least ≤ i → entry_at entries i ≡ None
  pub there : (i : ℕ) → listed held i ≡ entry_at entries i
  pub decides : entries_from p m bs (length bs) 5 0 ≡ on_fronts entries (entries_from p m bs fuel place least)
  pub size : length held ≡ length p.code

module _ {S : Type 0} (p : Parts) (m : Meaning S) (bs : List ℕ) where
  pub gathered_none : (held : List (Option S)) → held ≡ replicate (length p.code) None → Gathered p m bs held 5 0
  gathered_none held e =
      record {
        entries = [];
        fuel = length bs;
        enough = omega arith;
        later = λ i l. refl;
        there = nothing_listed (length p.code) held e;
        decides = refl;
        size = ap length e ∙ length-replicate (length p.code) None;
      }

  -- the list with one entry more
  entry_set : (held : List (Option S)) (e : Entry S) (i : ℕ) → e.at < length held → listed (set held e.at (Some e.state)) i ≡ cond (eqb e.at i) (Some e.state) (listed held i)
  entry_set held e i l =
      ⊎_elim
      (λ (q : e.at ≡ i).
      subst (λ (j : ℕ). listed (set held e.at (Some e.state)) j ≡ cond (eqb e.at j) (Some e.state) (listed held j)) q
      (rw (get_or-set_same held e.at (Some e.state) None l, eq-eqb e.at e.at refl) refl))
      (λ (ne : e.at ≢ i).
      let other : i ≢ e.at = λ q. ne (sym q) in
      rw (get_or-set_other held e.at i (Some e.state) None other, ne_eqb e.at i ne) refl)
      (cases_eq e.at i)

  later_more : (es : List (Entry S)) (e : Entry S) → entry_at es e.at ≡ None → (least : ℕ) → least ≤ e.at → ((i : ℕ) → least ≤ i → entry_at es i ≡ None) → (i : ℕ) → e.at + 1 ≤ i → entry_at (es ++ (e ∷ [])) i ≡ None
  later_more es e n least r h i l = entry_behind es e i n ∙ rw (ne_eqb e.at i (λ q. omega arith)) (h i (omega arith))

  -- the fuel is enough for one more field
  more_fuel : (fuel place : ℕ) → place < length bs → length bs ≤ place + fuel → (n : ℕ) × (fuel ≡ suc n)
  more_fuel zero place l h = absurd (omega arith)
  more_fuel (suc n) place l h = (n, refl)

  gathered_more : (held : List (Option S)) (place least : ℕ) (e : Entry S) → Gathered p m bs held place least → place < length bs → Ok e ≡ entry_in p m bs place least → Gathered p m bs (set held e.at (Some e.state)) (place + (3 + word_at bs (place + 1))) (e.at + 1)
  gathered_more held place least e g l h =
      let f = field_facts p m bs place least e (sym h) in
      let n = more_fuel g.fuel place l g.enough in
      let q : place + 3 + word_at bs (place + 1) ≡ place + (3 + word_at bs (place + 1)) = omega arith in
      let none_yet = g.later e.at f.rises in
      let k = g.size in
      let c = f.in_code in
      record {
        entries = g.entries ++ (e ∷ []);
        fuel = n.0;
        enough = let x = g.enough in let y = n.1 in omega arith;
        later = later_more g.entries e none_yet least f.rises g.later;
        there = λ i.
            entry_set held e i (omega arith)
            ∙ ap (λ o. cond (eqb e.at i) (Some e.state) o) (g.there i)
            ∙ sym (entry_behind g.entries e i none_yet);
        decides =
            g.decides
            ∙ ap (λ (k : ℕ). on_fronts g.entries (entries_from p m bs k place least)) n.1
            ∙ ap (on_fronts g.entries) (first_field p m bs n.0 place least l)
            ∙ ap (λ r. on_fronts g.entries (read_on r (λ x. entries_from p m bs n.0 (place + 3 + word_at bs (place + 1)) (x.at + 1)))) (sym h)
            ∙ ap (λ (k : ℕ). on_fronts g.entries (on_front e (entries_from p m bs n.0 k (e.at + 1)))) q
            ∙ sym (fronts_more g.entries e (entries_from p m bs n.0 (place + (3 + word_at bs (place + 1))) (e.at + 1)));
        size = length-set held e.at (Some e.state) ∙ g.size;
      }

  pub gathered_next : (held held' : List (Option S)) (place least place' least' : ℕ) (e : Entry S) → Gathered p m bs held place least → FieldRead p m bs place least (Some (Ok e)) place' least' → held' ≡ set held e.at (Some e.state) → Gathered p m bs held' place' least'
  gathered_next held held' place least place' least' e g (l, (h, (q, r))) s =
      subst (λ es. Gathered p m bs es place' least') (sym s)
      (subst (λ (k : ℕ). Gathered p m bs (set held e.at (Some e.state)) k least') (sym q)
      (subst (λ (k : ℕ). Gathered p m bs (set held e.at (Some e.state)) (place + (3 + word_at bs (place + 1))) k) (sym r)
      (gathered_more held place least e g l h)))

  -- a field that is wrong is the first
  pub gathered_wrong : (held : List (Option S)) (place least : ℕ) (f : CertificateError) → Gathered p m bs held place least → place < length bs → Err f ≡ entry_in p m bs place least → entries_from p m bs (length bs) 5 0 ≡ Err f
  gathered_wrong held place least f g l h =
      let n = more_fuel g.fuel place l g.enough in
      g.decides
      ∙ ap (λ (k : ℕ). on_fronts g.entries (entries_from p m bs k place least)) n.1
      ∙ ap (on_fronts g.entries) (first_field p m bs n.0 place least l)
      ∙ ap (λ r. on_fronts g.entries (read_on r (λ x. entries_from p m bs n.0 (place + 3 + word_at bs (place + 1)) (x.at + 1)))) (sym h)
      ∙ fronts_err g.entries f

  pub gathered_all : (held : List (Option S)) (place least : ℕ) → (g : Gathered p m bs held place least) → length bs ≤ place → entries_from p m bs (length bs) 5 0 ≡ Ok g.entries
  gathered_all held place least g l =
      g.decides ∙ ap (on_fronts g.entries) (no_field p m bs g.fuel place least l) ∙ fronts_none g.entries

  -- what the answer says of the whole
  pub read_wrong : (τ : Typing S) (f : CertificateError) (r : Result (Unit {0}) CertificateError) → true ≡ headed p bs → entries_from p m bs (length bs) 5 0 ≡ Err f → r ≡ Err f → EntriesRead (entries_in p m bs) r τ
  read_wrong τ f r h e q = rw (sym h, e) q

  pub read_whole : (τ : Typing S) (es : List (Entry S)) → true ≡ headed p bs → entries_from p m bs (length bs) 5 0 ≡ Ok es → ((i : ℕ) → τ i ≡ entry_at es i) → EntriesRead (entries_in p m bs) (Ok tt) τ
  read_whole τ es h e q = rw (sym h, e) (refl, q)
