-- The array of an accepted description: its size, where its pipes pass, and bounds on its words and elements. Assumes nothing.
use Rattle.std.specs.Prelude.{◌≡◌, List, ℕ, ◌+◌, ◌≤◌, ◌<◌, length}
use Rattle.std.proofs.Common.{sym, ◌∙◌, subst, arith}
use Rattle.meaning.specs.declared.Description.{Description}
use Rattle.meaning.specs.Limits.{gauge_limits, state_words_most}
use Rattle.meaning.specs.Description.{description_of, streams_of}
use Rattle.meaning.specs.Array.{Array, Pipe, array_of, pipe_number, no_pipe, elements_on, part_start}
use Rattle.meaning.specs.State.{word_count}
use Rattle.meaning.specs.Accept.{refusal_of, figures}
use Rattle.meaning.specs.Calls.{length_of}
use Rattle.lists.specs.Members.{each_length}
use Rattle.lists.specs.Sums.{part_ends}
use Rattle.geometry.specs.Descriptions.{laid}
use Rattle.geometry.specs.Arrays.{pipe_count_lem}
use Rattle.geometry.proofs.PipeOrder.{list_length_lem}
use Rattle.network.specs.Wiring.{Wired, stop_pipe}
use Rattle.guarantee.proofs.Wired.{wired}
use Rattle.addresses.specs.Indices.{process_count_lem, stream_count_lem, word_count_lem}
use Rattle.survey.specs.StateWords.{process_words_lem}
use Rattle.figures.specs.Shares.{Room, totals_over, Described, described, totals_room, totals_all, elements_most_lem}
use Rattle.ports.specs.Layout.{Regular}
use Rattle.sound_rows.specs.Rows.{Single}
use Rattle.port_table.specs.declared.Size.{Size}
use Rattle.port_table.specs.PortsOf.{SizeOf}

abbrev pub size_of : Description → Size
size_of d = record { processes = (figures d).processes; streams = d.sizes.streams; pipes = (figures d).pipes }

module _ (s : List ℕ) (ok : refusal_of gauge_limits s ≡ 0) where
  abbrev d : Description
  d = description_of s

  abbrev A : Array
  A = array_of d

  W : Wired A
  W = wired gauge_limits s ok

  h : Described d
  h = described s ok

  -- ---- pipes

  pub regular : Regular A
  regular =
      record {
        process = W.process_lt;
        stream = λ q k l. W.stream_lt q (stop_pipe A q k l);
        hop = λ q k l. W.hop_is q (stop_pipe A q k l);
      }

  pub single : Single A
  single = record { pipe = λ q k on l. W.pipe_is q k l; place = λ q k on l. W.place_is q k l }

  -- ---- sizes

  pub few_streams : d.sizes.streams ≤ 6
  few_streams = h.few.ranged.sized.most_streams

  pub size_of_lem : SizeOf A (size_of d)
  size_of_lem =
      record {
        processes = sym (process_count_lem d);
        streams = sym (stream_count_lem d ∙ h.in_use);
        pipes = sym (pipe_count_lem d);
        some = omega (arith, h.few.ranged.sized.least_streams);
      }

  room : Room (totals_over d.nest (streams_of d))
  room = subst Room (totals_all d h) (totals_room d h d.sizes.streams (omega arith))

  pub pipes_most_lem : (size_of d).pipes ≤ 6144
  pipes_most_lem = room.pipes

  pub words_few : word_count A ≤ state_words_most
  words_few = omega (arith, word_count_lem d, process_words_lem h.processes room.words, room.ends)

  -- ---- elements

  pub part_inside : (q : ℕ) → q < pipe_number A → part_start A q + elements_on A q ≤ length_of d
  part_inside q l =
      omega (
        arith,
        part_ends (λ (r : Pipe). length r.elements) no_pipe A.pipes q l,
        each_length (λ (r : Pipe). r.elements) A.pipes,
        list_length_lem (laid gauge_limits s ok),
      )

  pub elements_few : (q : ℕ) → q < pipe_number A → elements_on A q ≤ 24576
  elements_few q l = omega (arith, part_inside q l, elements_most_lem h)
