-- Whatever its code, a call that is carried out keeps tables well formed; and no call's own refusals have the number of a bad table.
use mathlib.Core.Path.{◌≡◌, refl}
use mathlib.Core.Bool.{true}
use mathlib.Core.List.{List}
use Prim.Native.Nat.{ℕ}
use Rattle.rules.specs.Layout.{Kind, process, segment, file, Addr}
use Rattle.rules.specs.Errors.{XbTab}
use Rattle.rules.specs.Rule.{Rule}
use Rattle.rules.specs.Call01.{spawn}
use Rattle.rules.specs.Call02.{release_process}
use Rattle.rules.specs.Call03.{build_segment}
use Rattle.rules.specs.Call04.{rendezvous}
use Rattle.rules.specs.Call05.{release_segment}
use Rattle.rules.specs.Call06.{set_access}
use Rattle.rules.specs.Call07.{create}
use Rattle.rules.specs.Call08.{open_file, open_subtype}
use Rattle.rules.specs.Call09.{close}
use Rattle.rules.specs.Call10.{link}
use Rattle.rules.specs.Call11.{unlink}
use Rattle.rules.specs.Call12.{set_bits_of}
use Rattle.rules.specs.Call13.{read_block}
use Rattle.rules.specs.Call14.{write_block}
use Rattle.rules.specs.Call15.{post}
use Rattle.rules.specs.Call16.{receive}
use Rattle.rules.specs.Call17.{status_of}
use Rattle.rules.specs.Call18.{access_of}
use Rattle.rules.specs.Call19.{remap}
use Rattle.rules.specs.Call20.{page_access}
use Rattle.rules.specs.Call21.{regrade}
use Rattle.rules.specs.Step.{Call, rule_of}
use Rattle.laws.proofs.Refusals.{without}
use Rattle.laws.proofs.Subtypes.{by-opened}
use Rattle.kept.proofs.Keeps.{KeptBy, Caller, keeps-none}
use Rattle.kept.proofs.Keep01
use Rattle.kept.proofs.Keep02
use Rattle.kept.proofs.Keep03
use Rattle.kept.proofs.Keep04
use Rattle.kept.proofs.Keep05
use Rattle.kept.proofs.Keep06
use Rattle.kept.proofs.Keep07
use Rattle.kept.proofs.Keep08
use Rattle.kept.proofs.Keep09
use Rattle.kept.proofs.Keep10
use Rattle.kept.proofs.Keep11
use Rattle.kept.proofs.Keep12
use Rattle.kept.proofs.Keep14
use Rattle.kept.proofs.Keep15
use Rattle.kept.proofs.Keep16
use Rattle.kept.proofs.Keep19
use Rattle.kept.proofs.Keep21
use Rattle.laws.proofs.Codes.{by_code, by_bits, by-status}

module _ (h : List ℕ) (r : Addr → ℕ) (st : List ℕ) (k : Call) where
  pub keeps : Caller h r k.caller → KeptBy h r (rule_of h r st k)
  unfolding read_block access_of page_access
  keeps me =
      let p = k.caller in
      by_code h k (λ f. KeptBy h r (f r st)) (record {
        call-1 = λ e. Keep01.keeps h r p me k.a k.b k.c k.buffer;
        call-2 = λ e. Keep02.keeps h r p me k.a k.buffer;
        call-3 = λ e. Keep03.keeps h r p me k.a k.b k.c k.buffer;
        call-4 = λ e. Keep04.keeps h r p me k.a k.b k.buffer;
        call-5 = λ e. Keep05.keeps h r p me k.a k.buffer;
        call-6 = λ e. Keep06.keeps h r p me k.a k.b k.buffer;
        call-7 = λ e. Keep07.keeps h r p me k.a k.b k.c k.buffer;
        call-8 = λ e. Keep08.keeps h r p me k.a k.b k.c k.buffer;
        call-9 = λ e. Keep09.keeps h r p me k.a k.buffer;
        call-10 = λ e. Keep10.keeps h r p me k.a k.buffer;
        call-11 = λ e. Keep11.keeps h r p me k.a k.buffer;
        call-12 = λ e. by_bits h r k (KeptBy h r) (Keep12.keeps h r p k.b k.buffer me);
        call-13 = λ e x. keeps-none h r me.fine;
        call-14 = λ e. Keep14.keeps h r p me k.a k.b k.buffer;
        call-15 = λ e. Keep15.keeps h r p me k.a k.buffer;
        call-16 = λ e. Keep16.keeps h r p me k.buffer;
        call-17 = λ e. by-status h r k (KeptBy h r) (λ s j x. keeps-none h r me.fine);
        call-18 = λ e x. keeps-none h r me.fine;
        call-19 = λ e. Keep19.keeps h r p me k.a k.b k.c k.buffer;
        call-20 = λ e x. keeps-none h r me.fine;
        call-21 = λ e. Keep21.keeps h r st p me k.a k.b k.c k.buffer;
        other = λ x. keeps-none h r me.fine;
      })

  -- no refusal of any call has that number
  pub numbers : without XbTab (rule_of h r st k).refusals ≡ true
  unfolding spawn release_process build_segment rendezvous release_segment set_access create open_file open_subtype close link unlink read_block write_block post receive access_of remap page_access regrade
  numbers =
      let P : Rule → Type 0 = λ x. without XbTab x.refusals ≡ true in
      by_code h k (λ f. P (f r st)) (record {
        call-1 = λ e. refl;
        call-2 = λ e. refl;
        call-3 = λ e. refl;
        call-4 = λ e. refl;
        call-5 = λ e. refl;
        call-6 = λ e. refl;
        call-7 = λ e. refl;
        call-8 = λ e. by-opened h r k.caller k.a k.b k.c k.buffer P (λ t. refl) (λ t. refl);
        call-9 = λ e. refl;
        call-10 = λ e. refl;
        call-11 = λ e. refl;
        call-12 = λ e. by_bits h r k P bits-numbers;
        call-13 = λ e. refl;
        call-14 = λ e. refl;
        call-15 = λ e. refl;
        call-16 = λ e. refl;
        call-17 = λ e. by-status h r k P status-numbers;
        call-18 = λ e. refl;
        call-19 = λ e. refl;
        call-20 = λ e. refl;
        call-21 = λ e. refl;
        other = refl;
      })
    where
      bits-numbers : (s : ℕ) (j : Kind) → without XbTab (set_bits_of h r k.caller s k.b k.buffer j).refusals ≡ true
      bits-numbers s process = refl
      bits-numbers s segment = refl
      bits-numbers s file = refl

      status-numbers : (s : ℕ) (j : Kind) → without XbTab (status_of h r k.caller s k.buffer j).refusals ≡ true
      status-numbers s process = refl
      status-numbers s segment = refl
      status-numbers s file = refl
