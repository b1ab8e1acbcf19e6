-- What each function offered to C promises: any two results that its contract allows are equal. A line is a contract in its own words, with r for
-- `result`, x for `x.now` and `x.old`, and x' for `x.new`. Written by tools/offered from the contracts; tests/check-promises holds it to them.
use Rattle.std.specs.Prelude.{List, ℕ, ◌≡◌, ℤ, not, eqb, length, ◌++◌, drop}
use Rattle.crc.specs.Crc.{crc32_of, crc16_of}
use Rattle.time_days.specs.Calendar.{day_of, date_of, weekday_of}
use Rattle.time_fields.specs.Showing.{showing}
use Rattle.time_local.specs.Clock.{pack_of, unpack_of}
use Rattle.time_local.specs.Text.{read_text}
use Rattle.time_printing.specs.Printing.{printed_of, start_text, output_of, end_text}
use Rattle.time_printing.specs.Typing.{typed_times}
use Rattle.section_reader.specs.Section.{read_section, stated_length}
use Rattle.salvage.specs.Salvage.{salvage_of, output_after, list_after}
use Rattle.section_cutter.specs.Cutting.{counted_of, cut_answer, cut_output}
use Rattle.packet_reader.specs.Answers.{completed_of, state_after, sections_over}
use Rattle.packet_writer.specs.Answers.{packed_of, packets_over}
use Rattle.gathering_state.specs.declared.Gathering.{Gathering}
use Rattle.gathering_feed.specs.Feeding as gathering_feed
use Rattle.gathering_hand_out.specs.Handing as gathering_hand_out
use Rattle.gathering_pack.specs.Packing.{packing_of, store_packed}
use Rattle.rooms_state.specs.State.{rooms_in, fresh_networks, network_of}
use Rattle.rooms_state.specs.declared.Networks.{Networks}
use Rattle.rooms_feed.specs.Feeding as rooms_feed
use Rattle.rooms_hand_out.specs.Handing as rooms_hand_out
use Rattle.rooms_end.specs.Ending.{ended_of}
use Rattle.rooms_count.specs.Counting.{held_of, free_of}
use Rattle.program_date_lines.specs.Report.{report_of}
use Rattle.program_salvage_lines.specs.Report.{report_of as runs_text_of}
use Rattle.program_section_line.specs.Line.{line_of}
use Rattle.body_formats.specs.Body.{body_read, measured, body_written, output_written, body_laid, laid_tape}
use Rattle.certificate.specs.Certificate.{certificate, certificate_kind}
use Rattle.certificate_fields.specs.Asked as certificate_fields
use Rattle.certificate_fields.specs.Asked.{authorization_count, authorization_part, certificate_count, certificate_part}
use Rattle.index.specs.Index.{index, index_kind}
use Rattle.index_stream_fields.specs.Asked.{descriptor_tag, descriptor_part, stream_type, stream_pid, stream_descriptors, descriptor_count, stream_count}
use Rattle.index_fields.specs.Asked as index_fields
use Rattle.index_fields.specs.Asked.{message_count, message_part, network, start, end, type_part, class, level, resource_count, resource_part, resource_digit}
use Rattle.index_fields.specs.Asked.{flag, channel_network, channel_stream, channel_program, pcr_pid, descriptors_part, streams_part}
use Rattle.index_records.specs.Records.{body_recorded, recorded}
use Rattle.index_records.specs.declared.Record.{Record}
use Rattle.content.specs.Content.{variant_read, variant_laid, variant_tape}
use Rattle.content_writer.specs.Written.{variant_measured, variant_written, variant_output}
use Rattle.content_fields.specs.Asked as content_fields
use Rattle.content_fields.specs.Asked.{language_count, language_part, letters_part, character_set, text_part, agency_part, auxiliary_count, variant_type}
use Rattle.content_fields.specs.Asked.{variant_part}
use Rattle.configuration.specs.Configuration.{configuration, configuration_kind}
use Rattle.configuration_fields.specs.Asked as configuration_fields
use Rattle.configuration_fields.specs.Asked.{command_count, command_part, command_tag, command_content, clock_year, clock_month, clock_day, clock_hour}
use Rattle.configuration_fields.specs.Asked.{clock_minute, clock_second, code_address, code_resource, code_digit, frequency, symbol_rate, mapping, return_kind}
use Rattle.configuration_fields.specs.Asked.{return_address, period, volume, parameter_count, parameter, terminal_count, terminal, terminal_digit}
use Rattle.teaching_feed.specs.Feeding.{taught_of, buffer_after}
use Rattle.teaching_hand_out.specs.Asking as teaching_hand_out
use Rattle.teaching_hand_out.specs.Asking.{heading_of, lacking_of}
use Rattle.c_answers.specs.Answers.{value_answer, date_answer, local_answer, showing_answer, times_answer, fields_after, salvaged_answer, section_answer}
use Rattle.c_answers.specs.Answers.{feed_answer, read_answer, number_answer, part_answer, local_field_answer, content_answer}
use Rattle.c_answers.specs.Version.{version}
use Rattle.c_rooms_answers.specs.Answers.{ended_answer}
use Rattle.c_teaching_answers.specs.Answers.{headed_answer, lacking_answer}
use Rattle.promises.specs.Determined.{Determined, Determined₂, Determined₃}

pub record Offered : Type 0 where
  -- The two checksums for C.
  pub nw_crc32 : (s : List ℕ) → Determined (λ r. r ≡ crc32_of s)
  pub nw_crc16 : (s : List ℕ) → Determined (λ r. r ≡ crc16_of s)
  -- Days, dates and weekdays for C.
  pub nw_day_of : (year month day : ℕ) → Determined (λ r. r ≡ value_answer (day_of year month day))
  pub nw_date_of : (day : ℕ) → Determined (λ r. r ≡ date_answer (date_of day))
  pub nw_weekday : (day : ℕ) → Determined (λ r. r ≡ value_answer (weekday_of day))
  -- Time fields, local times and the instant for C.
  pub nw_time_pack : (year month day hour minute second : ℕ) (offset : ℤ) →
      Determined (λ r. r ≡ value_answer (pack_of (record { year = year; month = month; day = day; hour = hour; minute = minute; second = second }) offset))
  pub nw_time_read_text : (text : List ℕ) (offset : ℤ) → Determined (λ r. r ≡ value_answer (read_text text offset))
  pub nw_time_unpack : (field : ℕ) (offset : ℤ) → Determined (λ r. r ≡ local_answer (unpack_of field offset))
  pub nw_time_showing : (start end day second : ℕ) → Determined (λ r. r ≡ showing_answer (showing start end (record { day = day; second = second })))
  -- Times for people, for C: a time field printed day first, or as the word live, and both times of a form typed together.
  pub nw_time_print_start : (field : ℕ) (offset : ℤ) (out : List ℕ) →
      Determined₂ (λ r out'. (r ≡ value_answer (printed_of (start_text field offset) out)) × (out' ≡ output_of (start_text field offset) out))
  pub nw_time_print_end : (field : ℕ) (offset : ℤ) (out : List ℕ) →
      Determined₂ (λ r out'. (r ≡ value_answer (printed_of (end_text field offset) out)) × (out' ≡ output_of (end_text field offset) out))
  pub nw_times_read_text : (start end : List ℕ) (live : ℕ) (offset : ℤ) (fields : List ℕ) →
      Determined₂ (λ r fields'. (r ≡ times_answer (typed_times start (not (eqb live 0)) end offset)) ×
      (fields' ≡ fields_after (typed_times start (not (eqb live 0)) end offset) fields))
  -- A capture salvaged for C: its good sections, and the list of its runs.
  pub nw_salvage : (capture out runs : List ℕ) →
      Determined₃ (λ r out' runs'. (r ≡ salvaged_answer (salvage_of capture (length out) (length runs))) ×
      (out' ≡ output_after capture out runs) ×
      (runs' ≡ list_after capture out runs))
  -- Sections for C: one read, its length looked up, and a body cut.
  pub nw_section_read : (s : List ℕ) → Determined (λ r. r ≡ section_answer (read_section s))
  pub nw_section_length : (s : List ℕ) → Determined (λ r. r ≡ value_answer (stated_length s))
  pub nw_section_count : (length : ℕ) → Determined (λ r. r ≡ value_answer (counted_of length))
  pub nw_section_cut : (body : List ℕ) (kind extension version number : ℕ) (out : List ℕ) →
      Determined₂ (λ r out'. (r ≡ value_answer (cut_answer body kind extension version number out)) ×
      (out' ≡ cut_output body kind extension version number out))
  -- Packets for C: a section packed, and one packet unpacked over the state that C lends.
  pub nw_packet_pack : (section : List ℕ) (counter : ℕ) (out : List ℕ) →
      Determined₂ (λ r out'. (r ≡ value_answer (packed_of counter section out)) × (out' ≡ packets_over counter section out))
  pub nw_packet_unpack : (state packet out : List ℕ) →
      Determined₃ (λ r state' out'. (r ≡ value_answer (completed_of state packet out)) ×
      (state' ≡ state_after state packet out) ×
      (out' ≡ sections_over state packet out))
  -- The gathering as C has it: a pointer to the state, byte strings as pointer and length, and one number for the answer.
  pub nw_gathering_feed : (g : Gathering) (store s : List ℕ) →
      Determined₃ (λ r g' store'. (r ≡ feed_answer (gathering_feed.fed_of g store s).answer) ×
      (g' ≡ (gathering_feed.fed_of g store s).state) ×
      (store' ≡ gathering_feed.store_after g store s))
  pub nw_gathering_hand_out : (g : Gathering) (store out : List ℕ) →
      Determined₂ (λ r out'. (r ≡ value_answer (gathering_hand_out.handed_of g store out)) × (out' ≡ gathering_hand_out.out_after g store out))
  pub nw_gathering_pack : (g : Gathering) (store : List ℕ) →
      Determined₃ (λ r g' store'. (r ≡ value_answer (packing_of g store).answer) × (g' ≡ (packing_of g store).state) × (store' ≡ store_packed g store))
  -- The certificate table for C.
  pub nw_certificate_read : (kind : ℕ) (body : List ℕ) → Determined (λ r. r ≡ read_answer (body_read certificate certificate_kind kind body))
  pub nw_certificate_authorization_count : (body : List ℕ) → Determined (λ r. r ≡ number_answer (authorization_count body))
  pub nw_certificate_authorization : (body : List ℕ) (i : ℕ) → Determined (λ r. r ≡ part_answer (authorization_part body i))
  pub nw_certificate_certificate_count : (body : List ℕ) → Determined (λ r. r ≡ number_answer (certificate_count body))
  pub nw_certificate_certificate : (body : List ℕ) (i : ℕ) → Determined (λ r. r ≡ part_answer (certificate_part body i))
  pub nw_certificate_signature : (body : List ℕ) → Determined (λ r. r ≡ part_answer (certificate_fields.signature_part body))
  pub nw_certificate_measure : (pool tape : List ℕ) → Determined (λ r. r ≡ value_answer (measured certificate pool tape))
  pub nw_certificate_write : (pool tape out : List ℕ) →
      Determined₂ (λ r out'. (r ≡ value_answer (body_written certificate pool tape (length out))) × (out' ≡ output_written certificate pool tape out))
  pub nw_certificate_lay : (kind : ℕ) (body tape : List ℕ) →
      Determined₂ (λ r tape'. (r ≡ value_answer (body_laid certificate certificate_kind kind body (length tape))) ×
      (tape' ≡ laid_tape certificate certificate_kind kind body tape))
  -- The index table for C: read, laid onto a form, written from one.
  pub nw_index_read : (kind : ℕ) (body : List ℕ) → Determined (λ r. r ≡ read_answer (body_read index index_kind kind body))
  pub nw_index_lay : (kind : ℕ) (body tape : List ℕ) →
      Determined₂ (λ r tape'. (r ≡ value_answer (body_laid index index_kind kind body (length tape))) × (tape' ≡ laid_tape index index_kind kind body tape))
  pub nw_index_measure : (pool tape : List ℕ) → Determined (λ r. r ≡ value_answer (measured index pool tape))
  pub nw_index_write : (pool tape out : List ℕ) →
      Determined₂ (λ r out'. (r ≡ value_answer (body_written index pool tape (length out))) × (out' ≡ output_written index pool tape out))
  -- The fields of a descriptor or a stream for C, asked for one by one, and how many there are.
  pub nw_descriptor_tag : (body : List ℕ) (at length : ℕ) → Determined (λ r. r ≡ number_answer (descriptor_tag body at length))
  pub nw_descriptor_bytes : (body : List ℕ) (at length : ℕ) → Determined (λ r. r ≡ part_answer (descriptor_part body at length))
  pub nw_stream_type : (body : List ℕ) (at length : ℕ) → Determined (λ r. r ≡ number_answer (stream_type body at length))
  pub nw_stream_pid : (body : List ℕ) (at length : ℕ) → Determined (λ r. r ≡ number_answer (stream_pid body at length))
  pub nw_stream_descriptors : (body : List ℕ) (at length : ℕ) → Determined (λ r. r ≡ part_answer (stream_descriptors body at length))
  pub nw_descriptor_count : (body : List ℕ) (at length : ℕ) → Determined (λ r. r ≡ number_answer (descriptor_count body at length))
  pub nw_stream_count : (body : List ℕ) (at length : ℕ) → Determined (λ r. r ≡ number_answer (stream_count body at length))
  -- The fields of an index table for C, asked for one by one.
  pub nw_index_message_count : (body : List ℕ) → Determined (λ r. r ≡ number_answer (message_count body))
  pub nw_index_message : (body : List ℕ) (i : ℕ) → Determined (λ r. r ≡ part_answer (message_part body i))
  pub nw_index_signature : (body : List ℕ) → Determined (λ r. r ≡ part_answer (index_fields.signature_part body))
  pub nw_message_identifier : (body : List ℕ) (at length : ℕ) → Determined (λ r. r ≡ part_answer (index_fields.identifier_part body at length))
  pub nw_message_identifier_digit : (body : List ℕ) (at length i : ℕ) → Determined (λ r. r ≡ number_answer (index_fields.identifier_digit body at length i))
  pub nw_message_extension : (body : List ℕ) (at length : ℕ) → Determined (λ r. r ≡ number_answer (index_fields.extension body at length))
  pub nw_message_network : (body : List ℕ) (at length : ℕ) → Determined (λ r. r ≡ number_answer (network body at length))
  pub nw_message_start : (body : List ℕ) (at length : ℕ) → Determined (λ r. r ≡ number_answer (start body at length))
  pub nw_message_end : (body : List ℕ) (at length : ℕ) → Determined (λ r. r ≡ number_answer (end body at length))
  pub nw_message_type : (body : List ℕ) (at length : ℕ) → Determined (λ r. r ≡ part_answer (type_part body at length))
  pub nw_message_class : (body : List ℕ) (at length : ℕ) → Determined (λ r. r ≡ number_answer (class body at length))
  pub nw_message_level : (body : List ℕ) (at length : ℕ) → Determined (λ r. r ≡ number_answer (level body at length))
  pub nw_message_resource_count : (body : List ℕ) (at length : ℕ) → Determined (λ r. r ≡ number_answer (resource_count body at length))
  pub nw_message_resource : (body : List ℕ) (at length i : ℕ) → Determined (λ r. r ≡ part_answer (resource_part body at length i))
  pub nw_message_resource_digit : (body : List ℕ) (at length i j : ℕ) → Determined (λ r. r ≡ number_answer (resource_digit body at length i j))
  pub nw_message_channel_flag : (body : List ℕ) (at length : ℕ) → Determined (λ r. r ≡ number_answer (flag body at length))
  pub nw_message_channel_network : (body : List ℕ) (at length : ℕ) → Determined (λ r. r ≡ number_answer (channel_network body at length))
  pub nw_message_channel_stream : (body : List ℕ) (at length : ℕ) → Determined (λ r. r ≡ number_answer (channel_stream body at length))
  pub nw_message_channel_program : (body : List ℕ) (at length : ℕ) → Determined (λ r. r ≡ number_answer (channel_program body at length))
  pub nw_message_pcr_pid : (body : List ℕ) (at length : ℕ) → Determined (λ r. r ≡ number_answer (pcr_pid body at length))
  pub nw_message_descriptors : (body : List ℕ) (at length : ℕ) → Determined (λ r. r ≡ part_answer (descriptors_part body at length))
  pub nw_message_streams : (body : List ℕ) (at length : ℕ) → Determined (λ r. r ≡ part_answer (streams_part body at length))
  pub nw_message_local_start : (body : List ℕ) (at length : ℕ) (offset : ℤ) → Determined (λ r. r ≡ local_field_answer offset (start body at length))
  pub nw_message_local_end : (body : List ℕ) (at length : ℕ) (offset : ℤ) → Determined (λ r. r ≡ local_field_answer offset (end body at length))
  -- The message records of an index table for C, which lends the list.
  pub nw_index_records : (kind : ℕ) (body : List ℕ) (list : List Record) →
      Determined₂ (λ r list'. (r ≡ value_answer (body_recorded kind body (length list))) × (list' ≡ recorded kind body list))
  -- The content table of either variant for C: read with its extension, laid onto a form, written from one with its extension.
  pub nw_content_read : (kind variant extension : ℕ) (body : List ℕ) → Determined (λ r. r ≡ read_answer (variant_read kind variant extension body))
  pub nw_content_lay : (kind variant : ℕ) (body tape : List ℕ) →
      Determined₂ (λ r tape'. (r ≡ value_answer (variant_laid kind variant body (length tape))) × (tape' ≡ variant_tape kind variant body tape))
  pub nw_content_measure : (variant : ℕ) (pool tape : List ℕ) → Determined (λ r. r ≡ value_answer (variant_measured variant pool tape))
  pub nw_content_write : (variant : ℕ) (pool tape out : List ℕ) →
      Determined₂ (λ r out'. (r ≡ content_answer (variant_written variant pool tape (length out))) × (out' ≡ variant_output variant pool tape out))
  -- The fields of a content table for C, asked for one by one.
  pub nw_content_identifier : (body : List ℕ) → Determined (λ r. r ≡ part_answer (content_fields.identifier_part body))
  pub nw_content_identifier_digit : (body : List ℕ) (i : ℕ) → Determined (λ r. r ≡ number_answer (content_fields.identifier_digit body i))
  pub nw_content_extension : (body : List ℕ) → Determined (λ r. r ≡ number_answer (content_fields.extension body))
  pub nw_content_language_count : (body : List ℕ) → Determined (λ r. r ≡ number_answer (language_count body))
  pub nw_content_language : (body : List ℕ) (i : ℕ) → Determined (λ r. r ≡ part_answer (language_part body i))
  pub nw_content_signature : (body : List ℕ) → Determined (λ r. r ≡ part_answer (content_fields.signature_part body))
  pub nw_language_letters : (body : List ℕ) (at length : ℕ) → Determined (λ r. r ≡ part_answer (letters_part body at length))
  pub nw_language_character_set : (body : List ℕ) (at length : ℕ) → Determined (λ r. r ≡ number_answer (character_set body at length))
  pub nw_language_text : (body : List ℕ) (at length : ℕ) → Determined (λ r. r ≡ part_answer (text_part body at length))
  pub nw_language_agency : (body : List ℕ) (at length : ℕ) → Determined (λ r. r ≡ part_answer (agency_part body at length))
  pub nw_language_auxiliary_count : (body : List ℕ) (at length : ℕ) → Determined (λ r. r ≡ number_answer (auxiliary_count body at length))
  pub nw_language_auxiliary_type : (variant : ℕ) (body : List ℕ) (at length i : ℕ) → Determined (λ r. r ≡ number_answer (variant_type variant body at length i))
  pub nw_language_auxiliary : (variant : ℕ) (body : List ℕ) (at length i : ℕ) → Determined (λ r. r ≡ part_answer (variant_part variant body at length i))
  -- The configuration table for C: read, laid onto a form, written from one.
  pub nw_configuration_read : (kind : ℕ) (body : List ℕ) → Determined (λ r. r ≡ read_answer (body_read configuration configuration_kind kind body))
  pub nw_configuration_lay : (kind : ℕ) (body tape : List ℕ) →
      Determined₂ (λ r tape'. (r ≡ value_answer (body_laid configuration configuration_kind kind body (length tape))) ×
      (tape' ≡ laid_tape configuration configuration_kind kind body tape))
  pub nw_configuration_measure : (pool tape : List ℕ) → Determined (λ r. r ≡ value_answer (measured configuration pool tape))
  pub nw_configuration_write : (pool tape out : List ℕ) →
      Determined₂ (λ r out'. (r ≡ value_answer (body_written configuration pool tape (length out))) × (out' ≡ output_written configuration pool tape out))
  -- The fields of a configuration table and of its commands for C, asked for one by one.
  pub nw_configuration_command_count : (body : List ℕ) → Determined (λ r. r ≡ number_answer (command_count body))
  pub nw_configuration_command : (body : List ℕ) (i : ℕ) → Determined (λ r. r ≡ part_answer (command_part body i))
  pub nw_configuration_signature : (body : List ℕ) → Determined (λ r. r ≡ part_answer (configuration_fields.signature_part body))
  pub nw_command_tag : (body : List ℕ) (at : ℕ) → Determined (λ r. r ≡ number_answer (command_tag body at))
  pub nw_command_content : (body : List ℕ) (at : ℕ) → Determined (λ r. r ≡ part_answer (command_content body at))
  pub nw_command_clock_year : (body : List ℕ) (at : ℕ) → Determined (λ r. r ≡ number_answer (clock_year body at))
  pub nw_command_clock_month : (body : List ℕ) (at : ℕ) → Determined (λ r. r ≡ number_answer (clock_month body at))
  pub nw_command_clock_day : (body : List ℕ) (at : ℕ) → Determined (λ r. r ≡ number_answer (clock_day body at))
  pub nw_command_clock_hour : (body : List ℕ) (at : ℕ) → Determined (λ r. r ≡ number_answer (clock_hour body at))
  pub nw_command_clock_minute : (body : List ℕ) (at : ℕ) → Determined (λ r. r ≡ number_answer (clock_minute body at))
  pub nw_command_clock_second : (body : List ℕ) (at : ℕ) → Determined (λ r. r ≡ number_answer (clock_second body at))
  pub nw_command_code_address : (body : List ℕ) (at : ℕ) → Determined (λ r. r ≡ part_answer (code_address body at))
  pub nw_command_code_resource : (body : List ℕ) (at : ℕ) → Determined (λ r. r ≡ part_answer (code_resource body at))
  pub nw_command_code_digit : (body : List ℕ) (at j : ℕ) → Determined (λ r. r ≡ number_answer (code_digit body at j))
  pub nw_command_frequency : (body : List ℕ) (at : ℕ) → Determined (λ r. r ≡ number_answer (frequency body at))
  pub nw_command_symbol_rate : (body : List ℕ) (at : ℕ) → Determined (λ r. r ≡ number_answer (symbol_rate body at))
  pub nw_command_mapping : (body : List ℕ) (at : ℕ) → Determined (λ r. r ≡ number_answer (mapping body at))
  pub nw_command_return_kind : (body : List ℕ) (at : ℕ) → Determined (λ r. r ≡ number_answer (return_kind body at))
  pub nw_command_return_address : (body : List ℕ) (at : ℕ) → Determined (λ r. r ≡ part_answer (return_address body at))
  pub nw_command_period : (body : List ℕ) (at : ℕ) → Determined (λ r. r ≡ number_answer (period body at))
  pub nw_command_volume : (body : List ℕ) (at : ℕ) → Determined (λ r. r ≡ number_answer (volume body at))
  pub nw_command_parameter_count : (body : List ℕ) (at : ℕ) → Determined (λ r. r ≡ number_answer (parameter_count body at))
  pub nw_command_parameter : (body : List ℕ) (at i : ℕ) → Determined (λ r. r ≡ number_answer (parameter body at i))
  pub nw_command_terminal_count : (body : List ℕ) (at : ℕ) → Determined (λ r. r ≡ number_answer (terminal_count body at))
  pub nw_command_terminal : (body : List ℕ) (at i : ℕ) → Determined (λ r. r ≡ part_answer (terminal body at i))
  pub nw_command_terminal_digit : (body : List ℕ) (at i j : ℕ) → Determined (λ r. r ≡ number_answer (terminal_digit body at i j))
  -- The library's version for C.
  pub nw_version : Determined (λ r. r ≡ version)
  -- Two networks over one store as C has them: a pointer to the state, the network's number, byte strings as pointer and length, and one number for the answer.
  pub nw_networks_start : (x : Networks) (bytes : ℕ) → Determined₂ (λ r x'. (r ≡ rooms_in bytes) × (x' ≡ fresh_networks bytes))
  pub nw_networks_feed : (x : Networks) (network : ℕ) (store s : List ℕ) →
      Determined₃ (λ r x' store'. (r ≡ feed_answer (rooms_feed.fed_of (network_of network) x store s).answer) ×
      (x' ≡ (rooms_feed.fed_of (network_of network) x store s).state) ×
      (store' ≡ rooms_feed.store_after (network_of network) x store s))
  pub nw_networks_hand_out : (x : Networks) (network : ℕ) (store out : List ℕ) →
      Determined₂ (λ r out'. (r ≡ value_answer (rooms_hand_out.handed_of (network_of network) x store out)) ×
      (out' ≡ rooms_hand_out.out_after (network_of network) x store out))
  pub nw_networks_end : (x : Networks) (network bytes : ℕ) →
      Determined₂ (λ r x'. (r ≡ ended_answer (ended_of (network_of network) x bytes).answer) × (x' ≡ (ended_of (network_of network) x bytes).state))
  pub nw_networks_held_rooms : (x : Networks) (bytes : ℕ) → Determined (λ r. r ≡ value_answer (held_of x bytes))
  pub nw_networks_free_rooms : (x : Networks) (bytes : ℕ) → Determined (λ r. r ≡ value_answer (free_of x bytes))
  -- What is offered to C for the training room: the slow gathering over the buffer that C lends, and its answers told as all others are.
  pub nw_teaching_feed : (buffer : List ℕ) (used store : ℕ) (s : List ℕ) →
      Determined₃ (λ r buffer' used'. (r ≡ feed_answer (taught_of buffer used store s).answer) ×
      (buffer' ≡ buffer_after buffer used s) ×
      (used' ≡ (taught_of buffer used store s).used))
  pub nw_teaching_hand_out : (buffer : List ℕ) (used store : ℕ) (out : List ℕ) →
      Determined₂ (λ r out'. (r ≡ value_answer (teaching_hand_out.handed_of buffer used store out)) ×
      (out' ≡ teaching_hand_out.out_after buffer used store out))
  pub nw_teaching_heading : (buffer : List ℕ) (used store : ℕ) → Determined (λ r. r ≡ headed_answer (heading_of buffer used store))
  pub nw_teaching_missing : (buffer : List ℕ) (used store : ℕ) → Determined (λ r. r ≡ lacking_answer (lacking_of buffer used store))
  -- What the commands nw-dates, nw-section and nw-salvage call from C: the report, the line and the list of runs that the programs write.
  pub nw_dates_report : (input out : List ℕ) → Determined₂ (λ r out'. (r ≡ length (report_of input)) × (out' ≡ report_of input ++ drop r out))
  pub nw_section_line : (input out : List ℕ) → Determined₂ (λ r out'. (r ≡ length (line_of input)) × (out' ≡ line_of input ++ drop r out))
  pub nw_salvage_list : (capture out : List ℕ) → Determined₂ (λ r out'. (r ≡ length (runs_text_of capture)) × (out' ≡ runs_text_of capture ++ drop r out))
