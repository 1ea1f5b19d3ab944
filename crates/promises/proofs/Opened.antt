-- The rules' definitions that computed examples open, in groups: to open one of these is to open all that stand under it.
use Rattle.rules.specs.Words.{all_below, some_below, sum_below, count_below, lowest, or_rather, least, tab_from, part, word4}
use Rattle.rules.specs.Level.{within, equals, flows_to}
use Rattle.rules.specs.Layout.{cells, slots, blocks, guard, subtypes, cell_word, level_of, subtype_word, configuration, first_slot, cell_of, flows, rd}
use Rattle.rules.specs.Seid.{seid, class_of, index_of, serial_of, is_seid, names_subtype, seid_at, or_self, present}
use Rattle.rules.specs.Modes.{valid_modes, reads, writes, excludes_readers, excludes_writers, clash}
use Rattle.rules.specs.Rights.{rights, may_read, may_write, lacks, asks_read, asks_write, valid_access, access}
use Rattle.rules.specs.WellFormed as formed
use Rattle.rules.specs.SetUp.{can_set_up, first_processes, fresh_table, set_up_table}
use Rattle.rules.specs.Find.{rights_at, free_slot, free_entry, zeros, one_less, page_left, pages_set, emptied, given_up}
use Rattle.rules.specs.Subtype.{no_subtype}
use Rattle.rules.specs.Call07.{unfit, subtype_for, create}
use Rattle.rules.specs.Call08.{clashes_at, clashes, mismatched, open_file, subtype_rights, open_subtype, open_seid}
use Rattle.rules.specs.Call09.{close}
use Rattle.rules.specs.Call13.{block, read_block}
use Rattle.rules.specs.Step.{rule_of, bad_caller, bad_code, carried_out, whole_rule, step}

-- counting, searching, and words of bytes
unfoldable pub open-words : Unit {0}
unfolding all_below some_below sum_below count_below lowest or_rather least tab_from part word4
open-words = tt

-- where things stand in a table, and which cell may flow to which
unfoldable pub open-layout : Unit {0}
unfolding open-words within equals flows_to cells slots blocks guard subtypes cell_word level_of subtype_word configuration first_slot cell_of flows rd
open-layout = tt

-- identifiers, modes and bits
unfoldable pub open-names : Unit {0}
unfolding seid class_of index_of serial_of is_seid names_subtype seid_at or_self present
open-names = tt

unfoldable pub open-rights : Unit {0}
unfolding valid_modes reads writes excludes_readers excludes_writers clash rights may_read may_write lacks asks_read asks_write valid_access access
open-rights = tt

-- whether a table is well formed, and what set-up makes of one
unfoldable pub open-objects : Unit {0}
unfolding formed.record_ok formed.held_ok formed.current_ok formed.object_entry_ok formed.subtype_entry_ok formed.entry_ok formed.own_entry formed.own_entries formed.segment_size formed.segment_ok formed.file_subtype_ok formed.file_ok
open-objects = tt

unfoldable pub open-processes : Unit {0}
unfolding formed.parent_ok formed.held_once formed.message_ok formed.page_ok formed.process_ok
open-processes = tt

unfoldable pub open-configuration : Unit {0}
unfolding formed.header_ok formed.cell_ok formed.levels_distinct formed.sums_match formed.subtype_ok formed.configured formed.lengths_exact
open-configuration = tt

unfoldable pub open-table : Unit {0}
unfolding open-layout open-names open-rights open-objects open-processes open-configuration formed.records_ok formed.well_formed
open-table = tt

unfoldable pub open-set-up : Unit {0}
unfolding can_set_up first_processes fresh_table set_up_table
open-set-up = tt

-- a step, and the calls of 01's listing
unfoldable pub open_step : Unit {0}
unfolding rule_of bad_caller bad_code carried_out whole_rule step
open_step = tt

unfoldable pub open-calls : Unit {0}
unfolding rights_at free_slot free_entry zeros one_less page_left pages_set emptied given_up no_subtype unfit subtype_for create clashes_at clashes mismatched open_file subtype_rights open_subtype open_seid close block read_block
open-calls = tt
