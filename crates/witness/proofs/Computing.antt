-- The definitions that Judge, Admit and Apply stand on, under three names, and those of the small files under a fourth: what unfolds one of the four unfolds
-- all that it stands for, so that a call on a small file computes. Nothing here need be believed. Assumes nothing.
use Prim.Native.Nat.{ℕ}
use mathlib.Core.List.{flatten}
use Rattle.octets.specs.Lists.{is_in}
use Rattle.octets.specs.Digits.{is_digit, digits_from, number_at, digits_of, fewest_from, fewest}
use Rattle.octets.specs.Number.{num_at, bytes_of}
use Rattle.fieldparts.specs.Descriptive.{separator_in, separator_at, parts_at, parts_of}
use Rattle.iso8211.specs.Directory.{tag_at, row_at, rows}
use Rattle.iso8211.specs.Field as iso8211_field
use Rattle.iso8211.specs.Field.{directory_at, field_at}
use Rattle.iso8211.specs.File.{framed_from, frame_of, record_at}
use Rattle.formats.specs.Formats as iso8211_formats
use Rattle.formats.specs.Formats.{digit_at, short_from, short_at, is_letter, closed, sized_at, counts, binary_at, primitive_at, single, repeated, joined, followed, item_at, items_from}
use Rattle.formats.specs.Formats.{written_at}
use Rattle.iso8211.specs.Leader.{kind_good, size_good, leader_good}
use Rattle.iso8211.specs.Record.{field_good, in_row, body_good, record_good}
use Rattle.fieldparts.specs.Same.{same_list}
use Rattle.entries.specs.Entries.{text_from, text_len, entry_len, entries_from, entries_of, whole_good}
use Rattle.entries.specs.Rules.{all_of, through}
use Rattle.words.specs.Order.{insert, sorted}
use Rattle.table.specs.Table.{table, as_number, row_of, among, kind_of, tag_of}
use Rattle.table.specs.Text.{bytes}
use Rattle.values.specs.Class.{is_geo, is_meta, is_collection, class_of, is_class, objl_good}
use Rattle.dates.specs.Date.{is_leap, days_in, is_date, date_good}
use Rattle.dataset.specs.Dsid.{dsid_ends, dsid_laid, is_code, codes_at, extension_good, dsnm_good, edtn_good, updn_digits, updn_good, uadt_good, sted_good, pred_good, head_fault}
use Rattle.dataset.specs.Dsid.{names_fault, issue_fault, product_fault, dsid_over, dsid_fault}
use Rattle.headvalues.specs.Dspm.{dspm_laid, datum_fault, units_fault, factors_fault, dspm_fault}
use Rattle.headvalues.specs.Dssi.{none_good, dssi_fault}
use Rattle.values.specs.Fault.{fault_at, first}
use Rattle.values.specs.Frid.{prim_good, frid_fault}
use Rattle.values.specs.Rule.{within, rcid_good, rver_good, ruin_good, profile_of, digits_within}
use Rattle.headvalues.specs.Text.{is_text, text_good, until_end, text_end}
use Rattle.values.specs.Vrid.{is_vector, vrid_fault}
use Rattle.attributes.specs.Attributes.{label_of, value_of, is_removal, value_good, attributes_from, attributes_fault, met_label, met_after, rind_good, comment_of, ffpt_from, ffpt_fault}
use Rattle.declarations.specs.Described.{labels_in, formats_in, same_formats, describes, described_from, described_of}
use Rattle.layout.specs.Layout as layout_layout
use Rattle.layout.specs.Layout.{opens, follows, may_end, filled, field_laid, laid_from, layout_fault}
use Rattle.chart.specs.Read as chart_read
use Rattle.chart.specs.Read.{next_stage, passed_state, records_fault, read_fault}
use Rattle.fieldvalue.specs.Value.{is_attributes, is_high, field_fault, seen_before, seen_after, values_from, value_fault}
use Rattle.items.specs.Identity.{rcnm_at, rcid_at, prim_at, objl_at, foid_at, rank_of, name_from, name_at, version_at, ruin_at}
use Rattle.items.specs.Item as items_item
use Rattle.items.specs.Item.{grup_at, of_feature, list_of}
use Rattle.items.specs.Lists as items_lists
use Rattle.items.specs.Lists.{part_at, join_from, entries_at}
use Rattle.counted.specs.Counts as names_counts
use Rattle.counted.specs.Counts.{count_of, counts_good}
use Rattle.names.specs.Held.{insert_by, order_by, held_items, offsets_from, held_offsets, place_from, place_in, object_in}
use Rattle.lookups.specs.Lookup as names_lookup
use Rattle.lookups.specs.Lookup.{name_in}
use Rattle.names.specs.Names as names_names
use Rattle.names.specs.Names.{first_item, twice_from, first_twice, twice_of}
use Rattle.reader.specs.Reader.{framed_front, front_of, twice_refusal, counts_refusal, cell_fault, work_answer, update_fault, fronted, records_in}
use Rattle.vectorshape.specs.Shape.{magnitude, pair_good, coordinates_good, isolated_good, connected_good, end_good, add_topi, edge_good, class_good, vector_good, is_node, point_good}
use Rattle.vectorshape.specs.Shape.{one_or_two}
use Rattle.vectorshape.specs.Shape.{line_good, area_good, spatial_good, spatial_count, feature_good, shape_good, shape_code}
use Rattle.pointer.specs.Pointer.{names_code, lnams_code, pointer_code}
use Rattle.answers.specs.First.{first_by}
use Rattle.ring.specs.Ring.{node_step, node_with, node_of, nodes_of, found, node_in, step_of, usage_good, along, rings_from, rings_good, ring_code}
use Rattle.topology.specs.Topology.{item_code, code_among, fault_from, topology_of, located, topology_fault}
use Rattle.judging.specs.Judge.{cell_verdict, judge_of}
use Rattle.records.specs.Written.{tag_bytes, body_of, rows_for, longest, farthest, row_bytes, rows_bytes, base_for, leader_of, head_over, head_bytes, record_bytes, size_of, records_bytes}
use Rattle.itemfields.specs.Fields.{list_piece, list_pieces, vrid_bytes, frid_bytes, vector_pieces, feature_pieces, item_pieces}
use Rattle.header.specs.Dsid.{dsid_of, shortest, dsid_with, dsid_bytes, revised}
use Rattle.header.specs.Dssi.{feature_counts, vector_counts, dssi_bytes}
use Rattle.header.specs.First.{declares, tree, first_pieces, first_leader, first_over, first_record}
use Rattle.held.specs.Chart.{header_of, chart_of}
use Rattle.held.specs.Held as held_held
use Rattle.held.specs.Held.{count_in, tally_in, dsid_pieces, dspm_pieces, items_pieces, records_of}
use Rattle.held.specs.Limits.{longest_of, fits}
use Rattle.loader.specs.Admit.{held_answer, written, admit_of, admit_area, area_by}
use Rattle.edits.specs.AttributeEdit.{named, change, finds, changes, changes_find}
use Rattle.edits.specs.Control.{gone, come, allowed, edited, edited_by}
use Rattle.edits.specs.InsertDelete.{is_absent, no_control, plain_at, insert_allowed, delete_allowed}
use Rattle.edits.specs.Lists.{list_allowed, list_edited, is_none, coordinates, control_of, lists_edited, allowed_at, lists_allowed}
use Rattle.merge.specs.Update as merge_update
use Rattle.merge.specs.Update.{without, changed, obeyed, result}
use Rattle.changes.specs.Amend as changes_amend
use Rattle.changes.specs.Amend.{held_by, kinds_of, insert_code, identity_same, edit_allowed, modify_code, amendment_code, amendments_fault, change_fault, placed_in}
use Rattle.changes.specs.Change.{control_from, control_at, amendments_from, change_of}
use Rattle.changes.specs.Follow.{chart_name, follow_code}
use Rattle.changes.specs.Updated.{updated_header, amended, updated}
use Rattle.verdict.specs.Verdict.{chart_topology}
use Rattle.loader.specs.Apply.{apply_of, apply_area}
use Rattle.witness.specs.Records.{declared, declared_first, declared_dsid, declared_dssi, declared_vrid, declared_pairs, declared_frid, declared_foid, dsid, dssi, heading}
use Rattle.witness.specs.Records.{cell_heading, update_heading, parameters, vrid, pair, node, end, edge, frid, foid, feature}
use Rattle.witness.specs.SmallCell.{cell_first, cell_front, small, ringed}
use Rattle.witness.specs.SmallUpdates.{vector_first, shift, vector_update, moving, deleting, held_small, held_moved, held_deleted}
use Rattle.layout.specs.General.{aall_at, nall_at, comf_at, dssi_count, edition_in, number_in}
use Rattle.answers.specs.Answer.{filed}
use Rattle.answers.specs.Sixteen.{answer_bytes, answer_area}

-- Judge, and the answer area
unfoldable pub judging : ℕ
unfolding flatten is_digit digits_from number_at num_at bytes_of separator_in separator_at parts_at parts_of tag_at row_at rows iso8211_field.count_at directory_at field_at framed_from
    frame_of record_at digit_at short_from short_at iso8211_formats.count_at is_letter closed sized_at counts binary_at primitive_at single repeated joined followed item_at
    items_from iso8211_formats.list_at written_at kind_good size_good leader_good field_good in_row body_good record_good same_list text_from text_len entry_len entries_from entries_of
    whole_good all_of through insert sorted is_in table as_number row_of among kind_of bytes is_geo is_meta is_collection class_of is_class objl_good is_leap days_in is_date date_good
    dsid_ends dsid_laid is_code codes_at extension_good dsnm_good edtn_good updn_digits updn_good uadt_good sted_good pred_good head_fault names_fault issue_fault product_fault dsid_over
    dsid_fault dspm_laid datum_fault units_fault factors_fault dspm_fault none_good dssi_fault fault_at first prim_good frid_fault within rcid_good rver_good ruin_good profile_of
    digits_within is_text text_good until_end text_end is_vector vrid_fault label_of value_of is_removal value_good attributes_from attributes_fault met_label met_after rind_good
    comment_of ffpt_from ffpt_fault labels_in formats_in same_formats describes described_from described_of opens follows layout_layout.placed may_end filled field_laid laid_from
    layout_fault next_stage chart_read.is_feature aall_at nall_at passed_state records_fault read_fault is_attributes is_high field_fault seen_before seen_after values_from value_fault
    rcnm_at rcid_at prim_at objl_at foid_at rank_of name_from name_at items_item.is_feature grup_at of_feature list_of version_at part_at join_from items_lists.list_at entries_at comf_at
    names_counts.of_name names_counts.of_class count_of dssi_count counts_good insert_by order_by names_names.items_from held_items offsets_from held_offsets place_from place_in
    object_in name_in names_lookup.found_code first_item twice_from first_twice twice_of filed framed_front front_of twice_refusal counts_refusal cell_fault work_answer magnitude
    pair_good coordinates_good isolated_good connected_good end_good add_topi edge_good class_good vector_good is_node point_good one_or_two line_good area_good spatial_good spatial_count
    feature_good shape_good shape_code first_by names_code lnams_code pointer_code node_step node_with node_of nodes_of found node_in step_of usage_good along rings_from rings_good
    ring_code item_code code_among fault_from topology_of located topology_fault answer_bytes answer_area cell_verdict judge_of fronted
judging = 0

-- Admit, besides
unfoldable pub admitting : ℕ
unfolding digits_of fewest_from fewest tag_of tag_bytes body_of rows_for longest farthest row_bytes rows_bytes base_for leader_of head_over head_bytes record_bytes size_of records_bytes
    list_piece list_pieces vrid_bytes frid_bytes vector_pieces feature_pieces item_pieces edition_in number_in dsid_of shortest dsid_with dsid_bytes feature_counts vector_counts
    dssi_bytes declares tree first_pieces first_leader first_over first_record header_of chart_of count_in held_held.of_name held_held.of_class tally_in dsid_pieces dspm_pieces
    items_pieces records_of longest_of fits held_answer written admit_of admit_area area_by records_in
admitting = 0

-- Apply, besides
unfoldable pub applying : ℕ
unfolding ruin_at update_fault revised named change finds changes changes_find gone come allowed edited edited_by is_absent no_control plain_at insert_allowed delete_allowed
    list_allowed list_edited is_none coordinates control_of lists_edited allowed_at lists_allowed merge_update.placed without changed obeyed result held_by kinds_of insert_code
    identity_same edit_allowed modify_code changes_amend.found_code amendment_code amendments_fault change_fault placed_in control_from control_at amendments_from change_of chart_name
    follow_code updated_header amended updated chart_topology apply_of apply_area
applying = 0

-- the small files
unfoldable pub small_files : ℕ
unfolding declared declared_first declared_dsid declared_dssi declared_vrid declared_pairs declared_frid declared_foid dsid dssi heading cell_heading update_heading parameters vrid
    pair node end edge frid foid feature cell_first cell_front small ringed vector_first shift vector_update moving deleting held_small held_moved held_deleted
small_files = 0
