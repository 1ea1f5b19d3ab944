-- `held::Holder::entry_ok` meets its contract: the tests gathered are those of the rule.
use Rattle.std.proofs.Common.{ℕ, not, ◌&&◌, ◌||◌, eqb, ltb, leb, ap, ◌∙◌, ap₂}
use Rattle.rules.specs.Layout.{flows, live, serial}
use Rattle.layout.specs.Kinds.{kind_of}
use Rattle.table.specs.Frame.{conf, words}
use Rattle.table.proofs.Holders.{entry_in}
use Rattle.table.proofs.held.Holder.entry_ok.Goals as goal

pub returns : goal.returns
returns c =
    let f = c.args.self.now.found.frame in
    let mine = c.args.self.now.mine in
    let k = kind_of c.args.self.now.kind in
    let word = c.record_at-at.ensures.word in
    let of_class = c.requires.held.0 in
    let index = c.requires.held.1 in
    let cell = c.requires.held.2 in
    let own = ap (λ (x : ℕ). eqb x mine) cell in
    let number = c.serial_of-serial.ensures in
    let flow = c.flows.ensures ∙ ap (λ (x : ℕ). flows (conf f) x mine) cell in
    let held = ap₂ ◌&&◌ (ap (ltb 0) number) (ap₂ ◌&&◌ (ap₂ leb number (word serial)) flow) in
    let current = ap₂ ◌||◌ (ap not own) (ap₂ ◌&&◌ (ap (λ (x : ℕ). eqb x 1) (word live)) (ap₂ eqb (word serial) number)) in
    let used = ap₂ ◌&&◌ c.valid_use.ensures (ap₂ ◌||◌ (ap not c.write_use.ensures) own) in
    ap₂ ◌&&◌ held (ap₂ ◌&&◌ current used)
    ∙ entry_in (conf f) (words f) k mine c.args.e.held c.args.e.used c.args.i of_class index c.requires.slot
