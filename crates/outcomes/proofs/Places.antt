-- The public functions of crates/layout.
use mathlib.Core.Path.{refl}
use Rattle.layout.proofs as code
use Rattle.outcomes.proofs.Exact.{Exact, one}

pub Kind-class : Exact code.Kind.class.Kinds.ps code.Kind.class.Kinds.r code.Kind.class.Reads.Asked code.Kind.class.Reads.Learnt
Kind-class = (λ κs a. tt, λ κs a z z' w w' p q. (one p q, refl))

pub Kind-record-words : Exact code.Kind.record_words.Kinds.ps code.Kind.record_words.Kinds.r code.Kind.record_words.Reads.Asked code.Kind.record_words.Reads.Learnt
Kind-record-words = (λ κs a. tt, λ κs a z z' w w' p q. (one p q, refl))

pub Kind-cell-word : Exact code.Kind.cell_word.Kinds.ps code.Kind.cell_word.Kinds.r code.Kind.cell_word.Reads.Asked code.Kind.cell_word.Reads.Learnt
Kind-cell-word = (λ κs a. tt, λ κs a z z' w w' p q. (one p.0 q.0, refl))

pub Kind-bits-word : Exact code.Kind.bits_word.Kinds.ps code.Kind.bits_word.Kinds.r code.Kind.bits_word.Reads.Asked code.Kind.bits_word.Reads.Learnt
Kind-bits-word = (λ κs a. tt, λ κs a z z' w w' p q. (one p q, refl))

pub Kind-holders-word : Exact code.Kind.holders_word.Kinds.ps code.Kind.holders_word.Kinds.r code.Kind.holders_word.Reads.Asked code.Kind.holders_word.Reads.Learnt
Kind-holders-word = (λ κs a. tt, λ κs a z z' w w' p q. (one p q, refl))

pub Kind-cells-at : Exact code.Kind.cells_at.Kinds.ps code.Kind.cells_at.Kinds.r code.Kind.cells_at.Reads.Asked code.Kind.cells_at.Reads.Learnt
Kind-cells-at = (λ κs a. tt, λ κs a z z' w w' p q. (one p q, refl))

pub header_of : Exact code.header_of.Kinds.ps code.header_of.Kinds.r code.header_of.Reads.Asked code.header_of.Reads.Learnt
header_of = (λ κs a. tt, λ κs a z z' w w' p q. (one p q, refl))

pub Header-slots : Exact code.Header.slots.Kinds.ps code.Header.slots.Kinds.r code.Header.slots.Reads.Asked code.Header.slots.Reads.Learnt
Header-slots = (λ κs a. tt, λ κs a z z' w w' p q. (one p q, refl))

pub Header-subtype-at : Exact code.Header.subtype_at.Kinds.ps code.Header.subtype_at.Kinds.r code.Header.subtype_at.Reads.Asked code.Header.subtype_at.Reads.Learnt
Header-subtype-at = (λ κs a. tt, λ κs a z z' w w' p q. (one p.0 q.0, refl))

pub Header-base : Exact code.Header.base.Kinds.ps code.Header.base.Kinds.r code.Header.base.Reads.Asked code.Header.base.Reads.Learnt
Header-base = (λ κs a. tt, λ κs a z z' w w' p q. (one p.0 q.0, refl))

pub Header-record-at : Exact code.Header.record_at.Kinds.ps code.Header.record_at.Kinds.r code.Header.record_at.Reads.Asked code.Header.record_at.Reads.Learnt
Header-record-at = (λ κs a. tt, λ κs a z z' w w' p q. (one p.0 q.0, refl))

pub Header-entry-at : Exact code.Header.entry_at.Kinds.ps code.Header.entry_at.Kinds.r code.Header.entry_at.Reads.Asked code.Header.entry_at.Reads.Learnt
Header-entry-at = (λ κs a. tt, λ κs a z z' w w' p q. (one p.0 q.0, refl))

pub Header-table-words : Exact code.Header.table_words.Kinds.ps code.Header.table_words.Kinds.r code.Header.table_words.Reads.Asked code.Header.table_words.Reads.Learnt
Header-table-words = (λ κs a. tt, λ κs a z z' w w' p q. (one p q, refl))

pub class-of : Exact code.class_of.Kinds.ps code.class_of.Kinds.r code.class_of.Reads.Asked code.class_of.Reads.Learnt
class-of = (λ κs a. tt, λ κs a z z' w w' p q. (one p q, refl))

pub index-of : Exact code.index_of.Kinds.ps code.index_of.Kinds.r code.index_of.Reads.Asked code.index_of.Reads.Learnt
index-of = (λ κs a. tt, λ κs a z z' w w' p q. (one p q, refl))

pub serial-of : Exact code.serial_of.Kinds.ps code.serial_of.Kinds.r code.serial_of.Reads.Asked code.serial_of.Reads.Learnt
serial-of = (λ κs a. tt, λ κs a z z' w w' p q. (one p q, refl))

pub is-seid : Exact code.is_seid.Kinds.ps code.is_seid.Kinds.r code.is_seid.Reads.Asked code.is_seid.Reads.Learnt
is-seid = (λ κs a. tt, λ κs a z z' w w' p q. (one p q, refl))
